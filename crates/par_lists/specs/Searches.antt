-- Searches: where an item passes a test. `find`, `position`, and for `exists` and `forall` `list_any` and `list_all`, are
-- std's.
use Rattle.std.specs.Prelude.{ℕ, ◌+◌, Bool, cond, ℤ, pos, negsuc, List, [], ◌∷◌, Option, Some, None, position}
use Rattle.std.specs.Cmp.Lexicographic.{pointwise}

-- the place, or -1 where there is none
abbrev pub index_or_minus_one : Option ℕ → ℤ
index_or_minus_one None = negsuc 0
index_or_minus_one (Some i) = pos i

-- the least index at which the test passes, or -1
abbrev pub index_where : {X : Type 0} → (X → Bool) → List X → ℤ
index_where p xs = index_or_minus_one (position p xs)

-- one place on, or the first place where the test passes there
abbrev pub one_on : Bool → Option ℕ → Option ℕ
one_on passes None = cond passes (Some 0) None
one_on passes (Some i) = Some (i + 1)

-- the greatest place at which the test passes, if there is one
abbrev pub last_position : {X : Type 0} → (X → Bool) → List X → Option ℕ
last_position p [] = None
last_position p (x ∷ xs) = one_on (p x) (last_position p xs)

-- the greatest index at which the test passes, or -1
abbrev pub last_index_where : {X : Type 0} → (X → Bool) → List X → ℤ
last_index_where p xs = index_or_minus_one (last_position p xs)

-- the lists are as long, and the test passes for each pair
abbrev pub same_elements : {X : Type 0} → (X → X → Bool) → List X → List X → Bool
same_elements same xs ys = pointwise same xs ys
