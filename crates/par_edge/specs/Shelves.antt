-- What contracts see of a shelf, and what its calls do to that.
use Rattle.std.specs.Prelude.{◌≡◌, ℕ, ◌+◌, ◌≤◌, List, length, Option, Some}
use Rattle.par_edge.specs.Count.{raised, RoseBy, Rose}
use Rattle.par_edge.specs.Files.{File, IfTold, HoldsPart, IsLonger, file_of}
use Rattle.par_edge.specs.declared.whole.ReadStop.{ReadStop}
use Rattle.par_edge.specs.declared.whole.ReadStop.TheVariants.{Failed, TooLong, Memory}

-- a shelf: the files that it holds, where it tells them, how many faults it counted and how many bytes it gave
pub record ShelfState : Type 0 where
  pub files : Option (List File)
  pub faults : ℕ
  pub given : ℕ

-- the shelf after some calls: it holds the same files, and neither count fell
pub record IsLaterShelf (before after : ShelfState) : Type 0 where
  pub files : after.files ≡ before.files
  pub faults : before.faults ≤ after.faults
  pub given : before.given ≤ after.given

-- a read that gave `count` bytes of the named file from `start` on
pub record Gives (before after : ShelfState) (name : List ℕ) (start count : ℕ) (buffer : List ℕ) : Type 0 where
  pub fits : count ≤ length buffer
  pub given : after.given ≡ raised before.given count
  pub part : IfTold before.files (λ files. HoldsPart files name start count buffer)

-- a read that failed: its fault was counted, and it gave nothing
pub record FailsToRead (before after : ShelfState) : Type 0 where
  pub rose : Rose before.faults after.faults
  pub given : after.given ≡ before.given

-- a whole read that gave the named file, of at most `limit` bytes
pub record GivesWhole (before after : ShelfState) (name : List ℕ) (limit : ℕ) (bytes : List ℕ) : Type 0 where
  pub fits : length bytes ≤ limit
  pub given : after.given ≡ raised before.given (length bytes)
  pub whole : IfTold before.files (λ files. file_of files name ≡ Some bytes)

-- the named file is too long: more than `limit` bytes came
pub record IsTooLong (before after : ShelfState) (name : List ℕ) (limit : ℕ) : Type 0 where
  pub came : RoseBy (limit + 1) before.given after.given
  pub longer : IfTold before.files (λ files. IsLonger files name limit)

-- why a whole read stopped: a fault was counted, or the file is too long; want of memory has no cause
abbrev pub StopsBecause : ShelfState → ShelfState → List ℕ → ℕ → ReadStop → Type 0
StopsBecause before after name limit Failed = Rose before.faults after.faults
StopsBecause before after name limit TooLong = IsTooLong before after name limit
StopsBecause before after name limit Memory = Unit {0}
