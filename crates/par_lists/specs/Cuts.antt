-- Cuts: parts of a list by place. `take`, `drop`, `take_while`, `slice_range` and `prefix_len` are std's, and
-- `slice_range xs a b` is `slice(a, b)`.
use Rattle.std.specs.Prelude.{ℕ, Bool, ℤ, pos, negsuc, List, take, drop, take_while}
use Rattle.std.specs.List.{prefix_len}

-- the place that a whole number names: a negative one names the first
abbrev pub place : ℤ → ℕ
place (pos n) = n
place (negsuc n) = 0

-- the first n items, and the others
abbrev pub split_at : {X : Type 0} → ℕ → List X → List X × List X
split_at n xs = (take n xs, drop n xs)

-- the items from the first one on that fails the test
abbrev pub drop_while : {X : Type 0} → (X → Bool) → List X → List X
drop_while p xs = drop (prefix_len p xs) xs

-- the items before the first one that fails, and those from it on
abbrev pub span : {X : Type 0} → (X → Bool) → List X → List X × List X
span p xs = (take_while p xs, drop_while p xs)

-- how many items in a row pass, from a place on
abbrev pub segment_length : {X : Type 0} → (X → Bool) → ℕ → List X → ℕ
segment_length p from xs = prefix_len p (drop from xs)
