-- Chunks: a list that is kept in pieces.
use Rattle.std.specs.Prelude.{ℕ, ◌+◌, List, [], ◌∷◌, length}
use Rattle.std.specs.List.{flat_map}
use Rattle.std.specs.Global.{Vec}

-- the items of the vectors, in order
abbrev pub items_of : {T : Type 0} → List (Vec T) → List T
items_of chunks = flat_map (λ c. c.items) chunks

-- how many items stand in the vectors before the last
abbrev pub before_last : {T : Type 0} → List (Vec T) → ℕ
before_last [] = 0
before_last (c ∷ []) = 0
before_last (c ∷ d ∷ ds) = length c.items + before_last (d ∷ ds)
