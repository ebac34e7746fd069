-- The lawful numbers of a leaf: its flag, and how many of its items it tested.
use Rattle.std.specs.Prelude.{◌≡◌, ℕ, ◌+◌, ◌-◌, ◌<◌, ◌≤◌, ◌%◌, ◌⊎◌, List, length, Bool}
use Rattle.par_laws.specs.Marks.{IsMarked, Clear, stop}
use Rattle.par_task.specs.Marking.{Kind, low_flag, abort_flag, high_flag, no_flag, no_test}

-- the last of the c items from lo on is marked
abbrev pub EndsMarked : List Bool → ℕ → ℕ → Type 0
EndsMarked marks lo c = (s : ℕ) × (s + 1 ≡ lo + c) × (lo ≤ s) × IsMarked marks s

-- a leaf reads its flag again after c items: c is a positive multiple of 512
abbrev pub IsReadAgain : ℕ → Type 0
IsReadAgain c = (0 < c) × (c % 512 ≡ 0)

-- some index is marked
abbrev pub AnyMarked : List Bool → Type 0
AnyMarked marks = stop marks < length marks

-- the items of lo..hi were tested in order, c of them: only the last of these may be marked, and it ends at hi, at a marked
-- item, or where the flag was read again and gave a reason
pub record IsScan (marks : List Bool) (lo hi c : ℕ) (reason : Type 0) : Type 0 where
  pub within : lo + c ≤ hi
  pub clear : Clear marks lo (lo + c - 1)
  pub ended : (lo + c ≡ hi) ⊎ (EndsMarked marks lo c ⊎ (IsReadAgain c × reason))

-- nothing is tested where the flag is at most lo, and else the items in order
pub record IsSkipOrScan (marks : List Bool) (lo hi flag c : ℕ) (reason : Type 0) : Type 0 where
  pub skipped : flag ≤ lo → c ≡ 0
  pub scanned : lo < flag → IsScan marks lo hi c reason

-- a leaf of a low-flag job: the flag is n or a marked index
pub record IsLowLeaf (marks : List Bool) (lo hi flag c : ℕ) : Type 0 where
  pub flagged : (flag ≡ length marks) ⊎ IsMarked marks flag
  pub tests : IsSkipOrScan marks lo hi flag c (stop marks ≤ lo + c)

-- a leaf of an abort job: the flag is n, or 0 where some index is marked
pub record IsAbortLeaf (marks : List Bool) (lo hi flag c : ℕ) : Type 0 where
  pub flagged : (flag ≡ length marks) ⊎ ((flag ≡ 0) × AnyMarked marks)
  pub tests : IsSkipOrScan marks lo hi flag c (AnyMarked marks)

-- a leaf of a job with a high flag: the flag is 0, or one above a marked index; all is tested or nothing
pub record IsHighLeaf (marks : List Bool) (lo hi flag c : ℕ) : Type 0 where
  pub flagged : (flag ≡ 0) ⊎ ((i : ℕ) × (flag ≡ i + 1) × IsMarked marks i)
  pub skipped : hi ≤ flag → c ≡ 0
  pub scanned : flag < hi → lo + c ≡ hi

-- the numbers of a leaf over lo..hi that read that flag and tested c items are lawful
abbrev pub IsLawful : Kind → List Bool → ℕ → ℕ → ℕ → ℕ → Type 0
IsLawful low_flag marks lo hi flag c = IsLowLeaf marks lo hi flag c
IsLawful abort_flag marks lo hi flag c = IsAbortLeaf marks lo hi flag c
IsLawful high_flag marks lo hi flag c = IsHighLeaf marks lo hi flag c
IsLawful no_flag marks lo hi flag c = (flag ≡ length marks) × (lo + c ≡ hi)
IsLawful no_test marks lo hi flag c = (flag ≡ length marks) × (c ≡ 0)
