-- Marks: a list of truth values, one an item. The index of an item is marked where its value is true.
use Rattle.std.specs.Prelude.{◌≡◌, ℕ, ◌+◌, ◌<◌, ◌≤◌, List, [], ◌∷◌, Bool, true, false, cond, slice_index_or}
use Rattle.std.proofs.Common.{zero, suc}

-- index i is marked
abbrev pub IsMarked : List Bool → ℕ → Type 0
IsMarked marks i = slice_index_or marks i false ≡ true

-- no index from lo on and before hi is marked
abbrev pub Clear : List Bool → ℕ → ℕ → Type 0
Clear marks lo hi = (k : ℕ) → lo ≤ k → k < hi → slice_index_or marks k false ≡ false

-- the least marked index, or the length where none is marked
abbrev pub stop : List Bool → ℕ
stop [] = 0
stop (b ∷ bs) = cond b 0 (stop bs + 1)

abbrev pub last_after : Bool → ℕ → ℕ
last_after b zero = cond b 1 0
last_after b (suc k) = suc k + 1

-- one above the greatest marked index, or 0 where none is marked
abbrev pub last : List Bool → ℕ
last [] = 0
last (b ∷ bs) = last_after b (last bs)
