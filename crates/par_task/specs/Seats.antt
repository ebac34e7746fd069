-- What a leaf owes to its seat: what the seat had seen of the flags is heeded, and what the leaf found is seen.
use Rattle.std.specs.Prelude.{◌≡◌, ℕ, ◌+◌, ◌<◌, ◌≤◌, ◌⊎◌, List, length, Bool, true}
use Rattle.par_laws.specs.Marks.{IsMarked, Clear}
use Rattle.par_signal.specs.Seen.{Seen}
use Rattle.par_signal.specs.Values.{IsSet}
use Rattle.par_task.specs.Marking.{Kind, low_flag, abort_flag, high_flag, no_flag, no_test}
use Rattle.par_task.specs.Leaves.{IsLawful, EndsMarked}

-- nothing that was seen of the flags is forgotten
pub record IsLater (old new : Seen) : Type 0 where
  pub of : new.of ≡ old.of
  pub low : new.low ≤ old.low
  pub high : old.high ≤ new.high
  pub abort : IsSet old.abort → IsSet new.abort
  pub alone : old.alone ≡ true → new.alone ≡ true

-- the flag that a leaf reads heeds what its seat had seen
abbrev pub Heeds : Kind → Seen → ℕ → Type 0
Heeds low_flag old flag = flag ≤ old.low
Heeds abort_flag old flag = IsSet old.abort → flag ≡ 0
Heeds high_flag old flag = old.high ≤ flag
Heeds no_flag old flag = Unit {0}
Heeds no_test old flag = Unit {0}

-- i is the greatest marked index of lo..hi
pub record IsGreatest (marks : List Bool) (lo hi i : ℕ) : Type 0 where
  pub from : lo ≤ i
  pub before : i < hi
  pub marked : IsMarked marks i
  pub none_above : Clear marks (i + 1) hi

-- what a leaf that tested c items from lo on found is what the seat has seen
abbrev pub HasFound : Kind → List Bool → ℕ → ℕ → Seen → Type 0
HasFound low_flag marks lo c new = (s : ℕ) → s + 1 ≡ lo + c → lo ≤ s → IsMarked marks s → new.low ≤ s
HasFound abort_flag marks lo c new = EndsMarked marks lo c → IsSet new.abort
HasFound high_flag marks lo c new = 0 < c → (i : ℕ) → IsGreatest marks lo (lo + c) i → i + 1 ≤ new.high
HasFound no_flag marks lo c new = Unit {0}
HasFound no_test marks lo c new = Unit {0}

-- nothing was seen of the low flag and of the abort flag
pub record IsFresh (seat : Seen) : Type 0 where
  pub low : seat.low ≡ length seat.of.marks
  pub abort : ¬ IsSet seat.abort

-- a leaf tests its items up to the first marked one; where none is marked its seat stays fresh
pub record IsFull (marks : List Bool) (lo hi c : ℕ) (new : Seen) : Type 0 where
  pub ended : (lo + c ≡ hi) ⊎ EndsMarked marks lo c
  pub stays : Clear marks lo hi → IsFresh new

-- what a leaf of a seat that was alone and fresh owes
abbrev pub IsFullAlone : Kind → List Bool → ℕ → ℕ → ℕ → Seen → Type 0
IsFullAlone low_flag marks lo hi c new = IsFull marks lo hi c new
IsFullAlone abort_flag marks lo hi c new = IsFull marks lo hi c new
IsFullAlone high_flag marks lo hi c new = Unit {0}
IsFullAlone no_flag marks lo hi c new = Unit {0}
IsFullAlone no_test marks lo hi c new = Unit {0}

-- all that a leaf over lo..hi owes of its numbers, and of what its seat has seen
pub record IsLeafOf (kind : Kind) (marks : List Bool) (lo hi : ℕ) (old new : Seen) (flag c : ℕ) : Type 0 where
  pub lawful : IsLawful kind marks lo hi flag c
  pub heeds : Heeds kind old flag
  pub found : HasFound kind marks lo c new
  pub full : old.alone ≡ true → IsFresh old → IsFullAlone kind marks lo hi c new
