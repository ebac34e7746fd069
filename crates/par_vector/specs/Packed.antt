-- The kids of a branch: all are full but the last, which isn't empty.
use Rattle.std.specs.Prelude.{◌≡◌, ℕ, ◌<◌, ◌≤◌, List, [], ◌∷◌, length}

abbrev pub IsPacked : {N T : Type 0} → (N → List T) → ℕ → List N → Type 0
IsPacked items room [] = Unit {0}
IsPacked items room (kid ∷ []) = (0 < length (items kid)) × (length (items kid) ≤ room)
IsPacked items room (kid ∷ next ∷ kids) = (length (items kid) ≡ room) × IsPacked items room (next ∷ kids)
