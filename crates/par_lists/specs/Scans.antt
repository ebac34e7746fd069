-- Scans: lists made place by place. `map`, `flat_map`, `zip`, `reverse` and `fold` are std's.
use Rattle.std.specs.Prelude.{ℕ, List, [], ◌∷◌, map}
use Rattle.std.specs.List.{enumerate_from}

-- each item with its index
abbrev pub zip_with_index : {X : Type 0} → List X → List (X × ℕ)
zip_with_index xs = map (λ e. (e.1, e.0)) (enumerate_from 0 xs)

-- at place k the fold of the first k items, for each k from 0 to the length
abbrev pub scan : {A B : Type 0} → (B → A → B) → B → List A → List B
scan f a [] = a ∷ []
scan f a (x ∷ xs) = a ∷ scan f (f a x) xs
