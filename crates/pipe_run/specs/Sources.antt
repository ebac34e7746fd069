-- The pipeline of a file, what of it is there, and the rows of its source.
use Rattle.std.specs.Prelude.{◌≡◌, ◌≢◌, pos, ◌+◌, ◌<◌, ◌≤◌, ◌||◌, not, ℕ, ℤ, Bool, true, false, List, [], ◌∷◌, length, map, Option, Some, None, option_map, Result, Ok, Err, if◌then◌else◌}
use Rattle.std.specs.Borrow.{Bor}
use Rattle.std.specs.List.{list_all}
use Rattle.par_edge.specs.Files.{File, IsLonger, file_of}
use Rattle.par_rows.specs.declared.schema.Column.{Column}
use Rattle.par_rows.specs.declared.value.Value.TheVariants as values
use Rattle.par_rows.specs.declared.row.Row.{Row}
use Rattle.par_splitter.specs.Range.{IsRange, IsRangeCount}
use Rattle.pipe_data.specs.Data.{data_of}
use Rattle.pipe_data.specs.declared.stop.DataStop.{DataStop}
use Rattle.pipe_data.specs.declared.stop.DataStop.TheVariants as stops
use Rattle.pipe_data.specs.declared.stop.Flaw.{Flaw}
use Rattle.pipe_data.specs.declared.stop.Flaw.TheVariants as flaws
use Rattle.pipe_steps.specs.declared.source.Kind.TheVariants as kinds
use Rattle.pipe_steps.specs.Said.{Origin, Middle, End, Said, Begins, Par, Goes, Ends}
use Rattle.pipe_steps.specs.Said as x
use Rattle.pipe_program.specs.Plans.{Plan}
use Rattle.pipe_program.specs.Reading.{AreNumbered, IsRefusedText, Reads}
use Rattle.pipe_stages.specs.Stages.{is_built}
use Rattle.pipe_answers.specs.Lasts.{is_built_last}
use Rattle.pipe_run.specs.declared.built.Sought.{Sought}
use Rattle.pipe_run.specs.declared.built.Sought.TheVariants as sought
use Rattle.pipe_run.specs.Rulings.{Then}
use Rattle.pipe_run.specs.declared.outcome.Counted.{Counted}
use Rattle.pipe_run.specs.declared.outcome.Counted.TheVariants.{PipelineBytes, DataBytes, Records, RangeItems}
use Rattle.pipe_run.specs.declared.outcome.Outcome.{Outcome}
use Rattle.pipe_run.specs.declared.outcome.Outcome.TheVariants.{BadPipeline, BadData, Limit, Memory}

-- the bytes of the file of this name, of which there are so many at most, or the refusal of a longer one. A file that isn't held has no ruling
abbrev pub IsBytes : Counted → ℕ → List ℕ → List File → Result (List ℕ) Outcome → Type 0
IsBytes what most name files (Ok bytes) = (file_of files name ≡ Some bytes) × (length bytes ≤ most)
IsBytes what most name files (Err o) = IsLonger files name most × (o ≡ Limit what (most + 1) most)

abbrev pub IsPipelineText : List ℕ → List File → Result (List ℕ) Outcome → Type 0
IsPipelineText = IsBytes PipelineBytes 65536

-- the one plan that the text reads as, or its refusal
abbrev pub IsPlan : List ℕ → Result Plan Outcome → Type 0
IsPlan text (Ok plan) = Reads text plan
IsPlan text (Err o) = (line : ℕ) × (kind : ℕ) × IsRefusedText text line kind × (o ≡ BadPipeline line kind)

-- ---- what is there to run

-- the first line that says such a thing
abbrev pub first_at : (Said → Bool) → List (ℕ × Said) → Option ℕ
first_at such [] = None
first_at such (z ∷ zs) = if such z.1 then Some z.0 else first_at such zs

abbrev pub IsFirstLine : (Said → Bool) → List ℕ → Option ℕ → Type 0
IsFirstLine such text line = (zs : List (ℕ × Said)) × AreNumbered text zs × (line ≡ first_at such zs)

-- what is sought: the source, where it is data; or a step or a collection that isn't built yet
abbrev pub says : Sought → Said → Bool
says sought.Data (Begins (x.Csv columns)) = true
says sought.Unbuilt (Par kinds.Vector) = true
says sought.Unbuilt (Goes m) = not (is_built m)
says sought.Unbuilt (Ends l) = not (is_built_last l)
says _ _ = false

-- all of these steps are built
abbrev pub AreBuilt : List Middle → End → Type 0
AreBuilt ms last = (list_all is_built ms ≡ true) × (is_built_last last ≡ true)

-- the bytes of a name, if there is one
abbrev pub named : Option (Bor (List ℕ)) → Option (List ℕ)
named = option_map (λ name. name.now)

-- a source of data is given a name of data
abbrev pub IsGiven : List ℕ → Origin → Option (List ℕ) → Result (Unit {0}) Outcome → Type 0
IsGiven text (x.Csv columns) None (Ok u) = ⊥
IsGiven text (x.Csv columns) None (Err o) = (line : ℕ) × IsFirstLine (says sought.Data) text (Some line) × (o ≡ BadPipeline line 14)
IsGiven text origin name r = r ≡ Ok tt

-- each line is built
abbrev pub IsBuilt : List ℕ → Result (Unit {0}) Outcome → Type 0
IsBuilt text (Ok u) = IsFirstLine (says sought.Unbuilt) text None
IsBuilt text (Err o) = (line : ℕ) × IsFirstLine (says sought.Unbuilt) text (Some line) × (o ≡ BadPipeline line 0)

-- ---- the rows of a source

-- the row of one number
abbrev pub number_row : ℤ → Row
number_row z = record { values = values.Int z ∷ [] }

-- the numbers of a range, of which there are at most 4,194,304, each a row
abbrev pub IsRangeRows : ℤ → ℤ → ℤ → Result (List Row) Outcome → Type 0
IsRangeRows a b c (Ok rows) = (numbers : List ℤ) × IsRange a b c numbers × (length numbers ≤ 4194304) × (rows ≡ map number_row numbers)
IsRangeRows a b c (Err o) = (n : ℕ) × IsRangeCount a b c n × (4194304 < n) × (o ≡ Limit RangeItems n 4194304)

abbrev pub flaw_number : Flaw → ℕ
flaw_number flaws.Header = 1
flaw_number flaws.Fields = 2
flaw_number flaws.Utf8 = 3
flaw_number flaws.Number = 4

-- why data has no rows, as an outcome
abbrev pub data_outcome : DataStop → Outcome
data_outcome (stops.Flawed at flaw) = BadData at (flaw_number flaw)
data_outcome stops.TooMany = Limit Records 4194305 4194304
data_outcome stops.Memory = Memory

abbrev pub data_result : Result (List Row) DataStop → Result (List Row) Outcome
data_result (Ok rows) = Ok rows
data_result (Err stop) = Err (data_outcome stop)

-- the rows of the data in the file of this name
abbrev pub IsDataRows : List Column → List ℕ → List File → Result (List Row) Outcome → Type 0
IsDataRows columns name files = Then (IsBytes DataBytes 67108864 name files) (λ bytes r. r ≡ data_result (data_of columns bytes))

-- the step of a range isn't 0, as in all that is read
abbrev pub Moves : Origin → Type 0
Moves (x.Range a b c) = c ≢ pos 0
Moves (x.Csv columns) = Unit {0}

-- data is named where the source is data
abbrev pub IsNamed : Origin → Option (List ℕ) → Type 0
IsNamed (x.Csv columns) None = ⊥
IsNamed origin name = Unit {0}

-- the rows of a source. One of data without a name has none
abbrev pub IsRows : Origin → Option (List ℕ) → List File → Result (List Row) Outcome → Type 0
IsRows (x.Range a b c) name files r = IsRangeRows a b c r
IsRows (x.Csv columns) (Some name) files r = IsDataRows columns name files r
IsRows (x.Csv columns) None files r = ⊥
