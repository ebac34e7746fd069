-- Two lists, item by item.
use Rattle.std.specs.Prelude.{List, [], length, Bool, false, cond, nat_eq}
use Rattle.std.specs.List.{zip, list_all}

-- the pairs of two lists of one length; no pair where the lengths differ
abbrev pub even_pairs : {X Y : Type 0} → List X → List Y → List (X × Y)
even_pairs xs ys = cond (nat_eq (length xs) (length ys)) (zip xs ys) []

-- the lists are as long, and every pair passes
abbrev pub same_elements : {X Y : Type 0} → (X × Y → Bool) → List X → List Y → Bool
same_elements same xs ys = cond (nat_eq (length xs) (length ys)) (list_all same (zip xs ys)) false
