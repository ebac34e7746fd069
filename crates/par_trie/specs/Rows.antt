-- The places below two levels, of which the lower one's slots stand in rows of 32.
use Rattle.std.specs.Prelude.{◌≡◌, ℕ, zero, suc, ◌+◌, ◌*◌, ◌/◌, ◌%◌, List, [], get_or, slice_get, Option, Some, None}
use Rattle.par_trie.specs.Places.{places_of_few, IsIndex}
use Rattle.par_trie.specs.Slots.{places_of_slot}
use Rattle.par_trie.specs.declared.leaves.Few.{Few}
use Rattle.par_trie.specs.declared.slot.Slot.{Slot}

-- each digit that has a row has one of its own, rows are whole, and there are few leaves at each digit
pub record IsTwofold (index : List ℕ) (few slots : ℕ) : Type 0 where
  pub indexed : IsIndex index (slots / 32)
  pub whole : slots / 32 * 32 ≡ slots
  pub upper : few ≡ 32

-- what stands in a row: the digit is the rest's low five bits
abbrev pub places_in_row : {N : Type 0} → (N → ℕ → List ℕ) → List (Slot N) → ℕ → ℕ → List ℕ
places_in_row places slots i q = places_of_slot places (slice_get slots (i * 32 + q % 32)) (q / 32)

-- the places of those of a few leaves that have this rest, where there are some
abbrev pub places_of_some : Option Few → ℕ → List ℕ
places_of_some None q = []
places_of_some (Some few) q = places_of_few few q

-- what stands at a digit of the upper level: its row, or its few leaves where it has none
abbrev pub places_by : {N : Type 0} → (N → ℕ → List ℕ) → Option Few → List (Slot N) → ℕ → ℕ → List ℕ
places_by places few slots zero q = places_of_some few q
places_by places few slots (suc i) q = places_in_row places slots i q

-- what stands in both levels: the upper digit is the rest's low five bits, and the lower one the next five
abbrev pub places_in : {N : Type 0} → (N → ℕ → List ℕ) → List ℕ → List Few → List (Slot N) → ℕ → List ℕ
places_in places index few slots q = places_by places (slice_get few (q % 32)) slots (get_or index (q % 32) 0) (q / 32)
