-- How a run ends: what was written and said by then, and what status it has.
use Rattle.std.specs.Prelude.{◌≡◌, ℕ, ◌⊎◌, List, Result, Ok, Err}
use Rattle.par_edge.specs.Files.{File, IfTold}
use Rattle.par_edge.specs.Shelves.{ShelfState, IsLaterShelf}
use Rattle.par_edge.specs.Sinks.{SinkState, Appends, AppendsPart}
use Rattle.par_edge.specs.Count.{Rose}
use Rattle.pipe_run.specs.Outcomes.{status_of, line_of}
use Rattle.pipe_run.specs.Rulings.{Shows, UnlessFree}
use Rattle.pipe_run.specs.declared.outcome.Outcome.{Outcome}
use Rattle.pipe_run.specs.declared.outcome.Outcome.TheVariants.{Done, Usage, WriteFault}

-- the text of the ruling, of which this much was appended
pub record IsWritten (rule : List File → Result (List ℕ) Outcome → Type 0) (appended : List ℕ → Type 0) (files : List File) : Type 0 where
  pub text : List ℕ
  pub ruled : rule files (Ok text)
  pub written : appended text

-- a refusal: nothing was written, the cause is shown, and where the files are told it is the ruling
pub record Refuses (rule : List File → Result (List ℕ) Outcome → Type 0) (before after : ShelfState) (out out' : SinkState) (shown : Type 0) (o : Outcome) : Type 0 where
  pub unwritten : out' ≡ out
  pub cause : shown
  pub ruled : UnlessFree o (IfTold before.files (λ files. rule files (Err o)))

-- what an outcome says of the files, and of what was written
abbrev pub EndsBy : (List File → Result (List ℕ) Outcome → Type 0) → ShelfState → ShelfState → SinkState → SinkState → Outcome → Type 0
EndsBy rule before after out out' Done = IfTold before.files (IsWritten rule (Appends out out'))
EndsBy rule before after out out' WriteFault = Rose out.faults out'.faults × IfTold before.files (IsWritten rule (AppendsPart out out'))
EndsBy rule before after out out' Usage = Refuses rule before after out out' (Unit {0}) Usage
EndsBy rule before after out out' o = Refuses rule before after out out' (Shows before after o) o

-- a run over a shelf and a sink that ended with this outcome
pub record Ends (rule : List File → Result (List ℕ) Outcome → Type 0) (before after : ShelfState) (out out' : SinkState) (o : Outcome) : Type 0 where
  pub later : IsLaterShelf before after
  pub ended : EndsBy rule before after out out' o

-- the line was appended whole, or a part of it where a fault was counted
abbrev pub Said : List ℕ → SinkState → SinkState → Type 0
Said line err err' = Appends err err' line ⊎ AppendsPart err err' line

-- what a status says: it is that of an outcome by which the run ended, and whose line was said
pub record Tells (rule : List File → Result (List ℕ) Outcome → Type 0) (before after : ShelfState) (out out' err err' : SinkState) (status : ℕ) : Type 0 where
  pub outcome : Outcome
  pub is : status ≡ status_of outcome
  pub ends : Ends rule before after out out' outcome
  pub said : Said (line_of outcome) err err'

-- the status that a ruling asks for: 0 with a text
abbrev pub status_of_ruling : Result (List ℕ) Outcome → ℕ
status_of_ruling (Ok text) = 0
status_of_ruling (Err o) = status_of o

-- the status is that of the ruling, but for want of memory, a read that failed and a write that failed
abbrev pub IsExact : Type 0 → Type 0 → Result (List ℕ) Outcome → ℕ → Type 0
IsExact read_failed write_failed r status = (status ≡ status_of_ruling r) ⊎ ((status ≡ 8) ⊎ (((status ≡ 5) × read_failed) ⊎ ((status ≡ 6) × write_failed)))

-- a text was written, or a part of it where the write failed; or it was refused, and nothing was
abbrev pub IsWrittenAs : SinkState → SinkState → Outcome → Result (List ℕ) Outcome → Type 0
IsWrittenAs out out' o (Ok text) = ((o ≡ Done) × Appends out out' text) ⊎ ((o ≡ WriteFault) × AppendsPart out out' text)
IsWrittenAs out out' o (Err refused) = (o ≡ refused) × (out' ≡ out)
