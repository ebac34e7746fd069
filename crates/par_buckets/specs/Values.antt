-- The values of a key, and what a map, groups and a set have of some items.
use Rattle.std.specs.Prelude.{◌≡◌, ℕ, Bool, cond, List, [], ◌∷◌, map, Option, Some, None}
use Rattle.std.specs.Global.{Vec}
use Rattle.std.specs.List.{IsDistinct, list_any}
use Rattle.std.specs.Map.{lookup, keys_of}
use Rattle.std.specs.Option.{option_map, option_or}
use Rattle.par_index.specs.Entries.{insert_entry, push_to_group}
use Rattle.par_buckets.specs.Held.{IsSorted}

-- the values of the pairs whose key passes, in order
abbrev pub values_with : {K V : Type 0} → (K → Bool) → List (K × V) → List V
values_with t [] = []
values_with t (p ∷ ps) = cond (t p.0) (p.1 ∷ values_with t ps) (values_with t ps)

-- the last item, where there is one
abbrev pub last_item : {X : Type 0} → List X → Option X
last_item [] = None
last_item (x ∷ xs) = option_or (last_item xs) (Some x)

-- the items, where there is one
abbrev pub some_items : {X : Type 0} → List X → Option (List X)
some_items [] = None
some_items (x ∷ xs) = Some (x ∷ xs)

-- each pair is inserted in turn
abbrev pub insert_entries : {K V : Type 0} → (K → K → Bool) → List (K × V) → List (K × V) → List (K × V)
insert_entries eq es [] = es
insert_entries eq es (p ∷ ps) = insert_entries eq (insert_entry eq es p.0 p.1) ps

-- each pair's value is pushed to the group of its key in turn
abbrev pub push_to_groups : {K V : Type 0} → (K → K → Bool) → List (K × List V) → List (K × V) → List (K × List V)
push_to_groups eq gs [] = gs
push_to_groups eq gs (p ∷ ps) = push_to_groups eq (push_to_group eq gs p.0 p.1) ps

-- the items of which contracts see these came in this order
abbrev pub Has : {X Y : Type 0} → (X → ℕ) → (X → Y) → ℕ × List (List X) → List Y → Type 0
Has {X} bucket see v ys = (xs : List X) × IsSorted bucket v xs × (map see xs ≡ ys)

module _ {K V S W : Type 0} (eq : K → K → Bool) (same : S → S → Bool) (seek : K → S) where
  -- each key of the pairs has its last value
  pub record IsMapOf (see : V → W) (out : List (K × V)) (ps : List (S × W)) : Type 0 where
    pub distinct : IsDistinct eq (keys_of out)
    pub last : (k : K) → option_map see (lookup (eq k) out) ≡ last_item (values_with (same (seek k)) ps)

  -- each key of the pairs has its values, in order
  pub record IsGroupsOf (see : V → W) (out : List (K × Vec V)) (ps : List (S × W)) : Type 0 where
    pub distinct : IsDistinct eq (keys_of out)
    pub values : (k : K) → option_map (λ v. map see v.items) (lookup (eq k) out) ≡ some_items (values_with (same (seek k)) ps)

module _ {K S : Type 0} (eq : K → K → Bool) (same : S → S → Bool) (seek : K → S) where
  -- the keys are those of the items, each once
  pub record IsSetOf (out : List K) (ks : List S) : Type 0 where
    pub distinct : IsDistinct eq out
    pub members : (k : K) → list_any (eq k) out ≡ list_any (same (seek k)) ks
