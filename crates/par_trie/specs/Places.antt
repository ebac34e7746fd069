-- The places that a node of the trie holds, by what is left of the hash, and a branch's table of digits.
use Rattle.std.specs.Prelude.{◌≡◌, ℕ, ◌+◌, ◌<◌, ◌≤◌, cond, ◌==◌, List, [], ◌∷◌, ◌++◌, get_or, take, slice_get, Some, ◌≢◌}
use Rattle.par_index.specs.declared.index.Leaf.{Leaf}
use Rattle.par_trie.specs.declared.leaves.Few.{Few}
use Rattle.par_index.specs.Places.{places_of}

-- the places of those leaves that have this rest
abbrev pub places_among : List Leaf → ℕ → List ℕ
places_among [] q = []
places_among (leaf ∷ leaves) q = places_of leaf q ++ places_among leaves q

-- the places of those of a few leaves that have this rest
abbrev pub places_of_few : Few → ℕ → List ℕ
places_of_few few q = places_among (take few.count few.leaves) q

-- the leaf at i has this rest if any leaf has it
abbrev pub IsLikely : List Leaf → ℕ → ℕ → Type 0
IsLikely leaves q i = (leaf : Leaf) → slice_get leaves i ≡ Some leaf → leaf.rest ≢ q → places_among leaves q ≡ []

-- how many digits have a kid
abbrev pub taken : List ℕ → ℕ
taken [] = 0
taken (n ∷ ns) = cond (n == 0) (taken ns) (taken ns + 1)

-- each digit that has a kid has one of its own
pub record IsIndex (index : List ℕ) (kids : ℕ) : Type 0 where
  pub count : taken index ≡ kids
  pub within : (d : ℕ) → get_or index d 0 ≤ kids
  pub apart : (d e : ℕ) → 0 < get_or index d 0 → get_or index d 0 ≡ get_or index e 0 → d ≡ e
