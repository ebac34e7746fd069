-- Blocks: the slots of one bucket, and the leftovers past their end.
use Rattle.std.specs.Prelude.{◌≡◌, ℕ, ◌<◌, ◌≤◌, ◌/◌, ◌%◌, ◌^◌, List, [], length, take, drop, slice_get, Option, Some}
use Rattle.std.specs.List.{AllByRecursion}
use Rattle.par_flat.specs.declared.slots.Slot.{Slot}
use Rattle.par_flat.specs.Slots.{leaves_of, IsClear}

-- a hash's home among the slots of its block: the bits above the shift, without those that name the block
abbrev pub home_in : ℕ → ℕ → ℕ → ℕ
home_in shift size q = q / 2 ^ shift % size

-- nothing with this hash stands before its home, nor past the first free slot from there on
pub record IsWalked (q home : ℕ) (slots : List Slot) : Type 0 where
  pub before : leaves_of (take home slots) q ≡ []
  pub clear : IsClear q (drop home slots)

-- the first `size` slots are the block, and past them stand the leftovers
pub record IsBlock (shift size : ℕ) (slots : List Slot) : Type 0 where
  pub shifts : shift < 32
  pub some : 0 < size
  pub whole : size ≤ length slots
  pub walked : (q : ℕ) → IsWalked q (home_in shift size q) slots

-- every key has this bucket
abbrev pub AreOfBucket : {K : Type 0} → (K → ℕ) → ℕ → List K → Type 0
AreOfBucket bucket i ks = AllByRecursion (λ k. bucket k ≡ i) ks

-- every key of list i has bucket i
abbrev pub AreKeyBuckets : {K : Type 0} → (K → ℕ) → List (List K) → Type 0
AreKeyBuckets {K} bucket lists = (i : ℕ) (ks : List K) → slice_get lists i ≡ Some ks → AreOfBucket bucket i ks
