-- Items with their indexes, which the API gives as numbers of 64 bits.
use Rattle.std.specs.Prelude.{ℕ, List, map, ℤ, pos}
use Rattle.std.specs.List.{range_with_len}
use Rattle.par_lists.specs.Scans.{zip_with_index}

-- the indexes of n items
abbrev pub indexes : ℕ → List ℤ
indexes n = map pos (range_with_len 0 n)

-- each item with its index
abbrev pub with_indexes : {X : Type 0} → List X → List (X × ℤ)
with_indexes xs = map (λ e. (e.0, pos e.1)) (zip_with_index xs)
