-- Items by bucket: how many they are, and 32 lists of them.
use Rattle.std.specs.Prelude.{◌≡◌, ℕ, ◌+◌, ◌<◌, ◌≤◌, ◌==◌, List, [], ◌∷◌, ◌++◌, length, get_or, set, filter}
use Rattle.par_index.specs.Entries.{joined}

-- one more item, at the end of the list of its bucket
abbrev pub added : {X : Type 0} → ℕ → X → ℕ × List (List X) → ℕ × List (List X)
added bucket x v = (v.0 + 1, set v.1 bucket (get_or v.1 bucket [] ++ x ∷ []))

-- each of the lists with the items of its like at its end
abbrev pub joined_each : {X : Type 0} → List (List X) → List (List X) → List (List X)
joined_each [] others = []
joined_each (xs ∷ lists) [] = xs ∷ lists
joined_each (xs ∷ lists) (ys ∷ others) = (xs ++ ys) ∷ joined_each lists others

-- the items of both, bucket by bucket
abbrev pub together : {X : Type 0} → ℕ × List (List X) → ℕ × List (List X) → ℕ × List (List X)
together v w = (v.0 + w.0, joined_each v.1 w.1)

-- there are 32 lists, and so many items in them
pub record IsHeld {X : Type 0} (count : ℕ) (lists : List (List X)) : Type 0 where
  pub many : length lists ≡ 32
  pub total : length (joined lists) ≡ count
  pub small : count ≤ 4194304

-- these items in order of arrival: list i has those of bucket i, in order
pub record IsSorted {X : Type 0} (bucket : X → ℕ) (v : ℕ × List (List X)) (xs : List X) : Type 0 where
  pub counted : v.0 ≡ length xs
  pub many : length v.1 ≡ 32
  pub sorted : (i : ℕ) → i < 32 → get_or v.1 i [] ≡ filter (λ x. bucket x == i) xs
