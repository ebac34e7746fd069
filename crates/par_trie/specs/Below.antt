-- The places below a branch, digit by digit.
use Rattle.std.specs.Prelude.{ℕ, zero, suc, ◌/◌, ◌%◌, List, [], get_or, slice_get, Option, Some, None}
use Rattle.par_index.specs.Places.{places_of}
use Rattle.par_trie.specs.declared.kid.Kid.{Kid}
use Rattle.par_trie.specs.declared.kid.Kid.TheVariants.{One, Below}

-- what stands in a kid
abbrev pub places_at : {N : Type 0} → (N → ℕ → List ℕ) → Kid N → ℕ → List ℕ
places_at places (One leaf) q = places_of leaf q
places_at places (Below node) q = places node.value q

-- what stands in a kid, where there is one
abbrev pub places_of_kid : {N : Type 0} → (N → ℕ → List ℕ) → Option (Kid N) → ℕ → List ℕ
places_of_kid places None q = []
places_of_kid places (Some kid) q = places_at places kid q

-- what stands at a number of the digits' table
abbrev pub places_by : {N : Type 0} → (N → ℕ → List ℕ) → List (Kid N) → ℕ → ℕ → List ℕ
places_by places kids zero q = []
places_by places kids (suc i) q = places_of_kid places (slice_get kids i) q

-- what stands in a branch: the digit is the rest's low five bits
abbrev pub places_in : {N : Type 0} → (N → ℕ → List ℕ) → List ℕ → List (Kid N) → ℕ → List ℕ
places_in places index kids q = places_by places kids (get_or index (q % 32) 0) (q / 32)
