-- A finite set as the list of its keys, in the order in which they came.
use Rattle.std.specs.Prelude.{Bool, cond, List, [], ◌∷◌, ◌++◌}
use Rattle.std.specs.List.{list_any}

-- the keys with this one: at the end, where no key is equal to it
abbrev pub insert_key : {K : Type 0} → (K → K → Bool) → List K → K → List K
insert_key eq ks k = cond (list_any (eq k) ks) ks (ks ++ k ∷ [])

-- the keys with each of the others, inserted in turn
abbrev pub insert_keys : {K : Type 0} → (K → K → Bool) → List K → List K → List K
insert_keys eq ks [] = ks
insert_keys eq ks (x ∷ xs) = insert_keys eq (insert_key eq ks x) xs
