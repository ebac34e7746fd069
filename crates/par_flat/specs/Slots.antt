-- The slots of a table, and where a walk over them comes to.
use Rattle.std.specs.Prelude.{◌≡◌, ℕ, zero, suc, ◌+◌, ◌<◌, ◌≤◌, ◌/◌, ◌-◌, ◌*◌, ◌^◌, Bool, true, false, ◌&&◌, ◌==◌, cond, List, [], ◌∷◌, ◌++◌, length, take, drop}
use Rattle.par_index.specs.declared.index.Leaf.{Leaf}
use Rattle.par_index.specs.Places.{places_of, is_among}
use Rattle.par_flat.specs.declared.slots.Slot.{Slot}
use Rattle.par_flat.specs.declared.slots.Slot.TheVariants.{Free, Taken}
use Rattle.par_flat.specs.declared.slots.Looked.{Looked}
use Rattle.par_flat.specs.declared.slots.Looked.TheVariants.{Found, Gap, End}

-- what a walk comes to
abbrev pub looked : (ℕ → Bool) → ℕ → List Slot → Looked
looked w q [] = End
looked w q (Free ∷ slots) = Gap
looked w q (Taken leaf ∷ slots) = cond ((leaf.rest == q) && w leaf.at) (Found leaf.at) (looked w q slots)

-- the places with this hash
abbrev pub leaves_of : List Slot → ℕ → List ℕ
leaves_of [] q = []
leaves_of (Free ∷ slots) q = leaves_of slots q
leaves_of (Taken leaf ∷ slots) q = places_of leaf q ++ leaves_of slots q

-- whether a slot holds this place under this hash
abbrev pub is_in : List Slot → ℕ → ℕ → Bool
is_in slots q a = is_among a (leaves_of slots q)

-- how many slots are taken
abbrev pub taken : List Slot → ℕ
taken [] = 0
taken (Free ∷ slots) = taken slots
taken (Taken leaf ∷ slots) = suc (taken slots)

-- the slots from the home on, and round the end
abbrev pub turned : ℕ → List Slot → List Slot
turned home slots = drop home slots ++ take home slots

-- nothing with this hash stands past the first free slot
abbrev pub IsClear : ℕ → List Slot → Type 0
IsClear q [] = Unit {0}
IsClear q (Free ∷ slots) = leaves_of slots q ≡ []
IsClear q (Taken leaf ∷ slots) = IsClear q slots

-- so for each hash from its home on, which its bits above the shift are
abbrev pub AreClear : ℕ → List Slot → Type 0
AreClear shift slots = (q : ℕ) → IsClear q (turned (q / 2 ^ shift) slots)

-- how many stand before the first free slot
abbrev pub first_free : List Slot → ℕ
first_free [] = 0
first_free (Free ∷ slots) = 0
first_free (Taken leaf ∷ slots) = suc (first_free slots)

-- the slots of a room: the home is the hash's high bits, and at most half of the slots are taken
pub record IsTable (room : ℕ) (slots : List Slot) : Type 0 where
  pub rooms : room ≤ 18
  pub size : length slots ≡ 32 * 2 ^ room
  pub homes : 2 ^ 32 ≤ length slots * 2 ^ (27 - room)
  pub half : taken slots * 2 ≤ length slots
  pub clear : AreClear (27 - room) slots
