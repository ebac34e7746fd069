-- What a chain is: a head, and tails that go on where it ends, the nearest first.
use Rattle.std.specs.Prelude.{◌≡◌, ℕ, ◌+◌, ◌*◌, ◌<◌, ◌≤◌, ◌^◌, ◌⊎◌, List, [], ◌∷◌, ◌++◌, length, map}
use Rattle.par_task.specs.Alone.{tail_nodes}

module _ {S X : Type 0} (items : S → List X) (lo : S → ℕ) where
  -- the lists of the tails joined are xs; each begins where the one before ends, and none is empty
  abbrev pub Follows : ℕ → List X → List (ℕ × S) → Type 0
  Follows from xs [] = xs ≡ []
  Follows from xs (t ∷ ts) =
      (lo t.1 ≡ from) × (0 < length (items t.1)) × ((rest : List X) × ((xs ≡ items t.1 ++ rest) × Follows (from + length (items t.1)) rest ts))

  -- the source in a head and tails, with the numbers of a chain that begins at node `at`
  pub record IsLinked (source : S) (at node : ℕ) (head : S) (tails : List (ℕ × S)) : Type 0 where
    pub head_lo : lo head ≡ lo source
    pub joined : (rest : List X) × ((items source ≡ items head ++ rest) × Follows (lo source + length (items head)) rest tails)
    pub nodes : (d : ℕ) × ((node ≡ at * 2 ^ d) × (map (λ x. x.0) tails ≡ tail_nodes at d))
    pub small : node ≤ 2047
    pub some : 0 < length (items source) → 0 < length (items head)

  -- the last cut, which made the nearest tail, was one of more than t items
  abbrev pub IsNeeded : ℕ → S → List (ℕ × S) → Type 0
  IsNeeded t head [] = Unit {0}
  IsNeeded t head (tail ∷ tails) = t < length (items head) + length (items tail.1)

  -- the chain of a source at a node: the head has at most t items, or no number is left, and no cut was idle
  pub record IsChain (source : S) (at t node : ℕ) (head : S) (tails : List (ℕ × S)) : Type 0 where
    pub linked : IsLinked source at node head tails
    pub ended : (length (items head) ≤ t) ⊎ (2047 < 2 * node + 1)
    pub needed : IsNeeded t head tails
