-- Groups: items by their keys. A key is told from another by the order.
use Rattle.std.specs.Prelude.{Bool, not, List, [], ◌∷◌, filter, fold, map}
use Rattle.std.specs.Ordering.{is_eq, match_ordering}
use Rattle.std.specs.declared.cmp.Ordering.{Ordering}
use Rattle.std.specs.BTreeMap.{insert_entry}

-- the items that have no equal item before them
abbrev pub distinct : {X : Type 0} → (X → X → Bool) → List X → List X
distinct same [] = []
distinct same (x ∷ xs) = x ∷ filter (λ y. not (same x y)) (distinct same xs)

-- the keys with one more, in order
abbrev pub insert_key : {K : Type 0} → (K → K → Ordering) → List K → K → List K
insert_key order [] k = k ∷ []
insert_key order (j ∷ js) k = match_ordering (order k j) (k ∷ j ∷ js) (j ∷ js) (j ∷ insert_key order js k)

-- `toSet`: the distinct keys, in order
abbrev pub keys_in_order : {K : Type 0} → (K → K → Ordering) → List K → List K
keys_in_order order ks = fold (insert_key order) [] ks

-- the values of the pairs with this key, in the order of the pairs
abbrev pub values_of : {K V : Type 0} → (K → K → Ordering) → List (K × V) → K → List V
values_of order pairs k = map (λ p. p.1) (filter (λ p. is_eq (order p.0 k)) pairs)

-- `groupBy`: each distinct key with its values, in the order of the keys
abbrev pub groups : {K V : Type 0} → (K → K → Ordering) → List (K × V) → List (K × List V)
groups order pairs = map (λ k. (k, values_of order pairs k)) (keys_in_order order (map (λ p. p.0) pairs))

-- `toMap`: each distinct key with the value of its last pair, in the order of the keys
abbrev pub last_pairs : {K V : Type 0} → (K → K → Ordering) → List (K × V) → List (K × V)
last_pairs order pairs = fold (λ entries p. insert_entry order entries p.0 p.1) [] pairs
