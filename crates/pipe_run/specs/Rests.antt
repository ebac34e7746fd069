-- What is left of a run behind some of its steps.
use Rattle.std.specs.Prelude.{◌≡◌, ◌+◌, ◌<◌, ◌≤◌, ◌-◌, ◌^◌, ◌++◌, ℕ, List, [], ◌∷◌, length, map, true, Result, Ok, Err, Option}
use Rattle.par_task.specs.Manners.{Manner}
use Rattle.par_rows.specs.declared.schema.Column.{Column}
use Rattle.par_rows.specs.declared.row.Row.{Row}
use Rattle.pipe_steps.specs.declared.step.Step.{Step}
use Rattle.pipe_steps.specs.declared.last.Last.{Last}
use Rattle.pipe_steps.specs.Said.{Middle, End, last_view, middle_view}
use Rattle.pipe_steps.specs.Said as x
use Rattle.pipe_checks.specs.Columns.{source_columns, step_columns}
use Rattle.pipe_program.specs.Plans.{Plan}
use Rattle.pipe_program.specs.Reading.{AreFaultless}
use Rattle.pipe_answers.specs.declared.audits.StageAudit.{StageAudit}
use Rattle.par_lists.specs.Cuts.{place}
use Rattle.pipe_run.specs.declared.outcome.Outcome.{Outcome}
use Rattle.pipe_run.specs.declared.stages.Rest.{Rest}
use Rattle.pipe_run.specs.declared.stages.Reached.{Reached}
use Rattle.pipe_run.specs.declared.stages.Reached.TheVariants.{Answer, Table}
use Rattle.pipe_run.specs.Runs.{IsRun, Told, told_before}
use Rattle.pipe_run.specs.Sources.{AreBuilt}

abbrev pub columns_of : Rest → List Column
columns_of rest = rest.schema.columns.items

abbrev pub middles_of : Rest → List Middle
middles_of rest = map middle_view rest.steps.now

-- a run of what is left, over these rows
abbrev pub IsRunOf : Manner → Rest → List Row → Result Told Outcome → Type 0
IsRunOf manner rest rows r = IsRun manner rest.number (columns_of rest) (middles_of rest) (last_view rest.last.now) rows r

-- nothing of what is left is wrong, all of it is built, and its numbers fit
pub record IsReady (rest : Rest) : Type 0 where
  pub faultless : AreFaultless (columns_of rest) (middles_of rest) (last_view rest.last.now)
  pub built : AreBuilt (middles_of rest) (last_view rest.last.now)
  pub few : rest.number + length rest.steps.now < 2 ^ 32

-- what was reached: the answer with all audits; or rows with fewer steps left, where a run of these is the rest of the run
abbrev pub Reaches : Manner → Rest → List Row → List StageAudit → Reached → Type 0
Reaches manner rest rows audits (Answer text) = IsRunOf manner rest rows (Ok (text.items, audits))
Reaches manner rest rows audits (Table made behind) = IsReady behind × (length made.items ≤ 4194304) × (length behind.steps.now < length rest.steps.now)
    × ((r : Result Told Outcome) → IsRunOf manner behind made.items r → IsRunOf manner rest rows (told_before audits r))

-- what is left behind the first step, of these columns, where these steps are behind it
pub record IsBehind (number : ℕ) (cs : List Column) (m : Middle) (steps : List Step) (last : Last) (rest : Rest) : Type 0 where
  pub number_is : rest.number ≡ number + 1
  pub columns_are : columns_of rest ≡ step_columns cs m
  pub steps_are : rest.steps.now ≡ steps
  pub last_is : rest.last.now ≡ last

-- more audits were noted, of which so much holds
abbrev pub Notes : List StageAudit → List StageAudit → (List StageAudit → Type 0) → Type 0
Notes before after holds = (more : List StageAudit) × (after ≡ before ++ more) × holds more

-- how many items the job of a step had that got and gave so many rows
abbrev pub items_told : Middle → ℕ → ℕ → ℕ
items_told (x.ZipRange a b c n) before after = after
items_told m before after = before

-- how many items the job of a last step had that got so many rows
abbrev pub last_told : End → ℕ → ℕ
last_told (x.SegmentLength e n) rows = rows - place n
last_told l rows = rows

-- all that is to run of a plan, behind its source
pub record IsOpening (p : Plan) (rest : Rest) : Type 0 where
  pub number_is : rest.number ≡ 2
  pub columns_are : columns_of rest ≡ source_columns p.origin
  pub middles_are : middles_of rest ≡ p.middles
  pub last_is : last_view rest.last.now ≡ p.last
