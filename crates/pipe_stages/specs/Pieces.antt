-- The pieces of a text.
use Rattle.std.specs.Prelude.{◌==◌, ◌-◌, ℕ, zero, suc, Bool, true, false, cond, List, [], ◌∷◌, length, ◌&&◌}

-- whether a text begins with this one
abbrev pub begins : List ℕ → List ℕ → Bool
begins [] text = true
begins (c ∷ sep) [] = false
begins (c ∷ sep) (d ∷ text) = (c == d) && begins sep text

-- with one character more at the front of the first piece
abbrev pub onto_first : ℕ → List (List ℕ) → List (List ℕ)
onto_first c [] = []
onto_first c (piece ∷ rest) = (c ∷ piece) ∷ rest

-- the pieces of what is left of a text after so many characters
abbrev pub pieces_after : List ℕ → ℕ → List ℕ → List (List ℕ)
pieces_after sep skipped [] = [] ∷ []
pieces_after sep (suc skipped) (c ∷ text) = pieces_after sep skipped text
pieces_after sep zero (c ∷ text) = cond (begins sep (c ∷ text)) ([] ∷ pieces_after sep (length sep - 1) text) (onto_first c (pieces_after sep 0 text))

-- the pieces between a separator's occurrences that are found from the left and don't overlap; a text without one is its
-- own piece
abbrev pub pieces : List ℕ → List ℕ → List (List ℕ)
pieces sep text = pieces_after sep 0 text
