-- The places below a level with a slot for each digit.
use Rattle.std.specs.Prelude.{ℕ, ◌/◌, ◌%◌, List, [], slice_get, Option, Some, None}
use Rattle.par_trie.specs.Places.{places_of_few}
use Rattle.par_trie.specs.declared.slot.Slot.{Slot}
use Rattle.par_trie.specs.declared.slot.Slot.TheVariants.{Few, Below}

-- what stands in a slot
abbrev pub places_at : {N : Type 0} → (N → ℕ → List ℕ) → Slot N → ℕ → List ℕ
places_at places (Few few) q = places_of_few few q
places_at places (Below node) q = places node q

-- what stands in a slot, where there is one
abbrev pub places_of_slot : {N : Type 0} → (N → ℕ → List ℕ) → Option (Slot N) → ℕ → List ℕ
places_of_slot places None q = []
places_of_slot places (Some slot) q = places_at places slot q

-- what stands in the slots: the digit is the rest's low five bits
abbrev pub places_in : {N : Type 0} → (N → ℕ → List ℕ) → List (Slot N) → ℕ → List ℕ
places_in places slots q = places_of_slot places (slice_get slots (q % 32)) (q / 32)
