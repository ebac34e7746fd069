-- What a run may answer: its text, or its first refusal in order.
use Rattle.std.specs.Prelude.{◌≡◌, ◌≤◌, ℕ, Bool, List, Option, Some, None, Result, Ok, Err}
use Rattle.par_edge.specs.Files.{File}
use Rattle.par_rows.specs.declared.row.Row.{Row}
use Rattle.par_task.specs.Manners.{Manner, IsManner}
use Rattle.par_pool.specs.Plans.{planned}
use Rattle.pipe_checks.specs.Columns.{source_columns}
use Rattle.pipe_program.specs.Plans.{Plan}
use Rattle.pipe_print.specs.Lines.{written_text}
use Rattle.pipe_words.specs.Commands.{Asked as Command, Run, Check}
use Rattle.pipe_run.specs.Rulings.{Then}
use Rattle.pipe_run.specs.Runs.{IsRun, whole_text}
use Rattle.pipe_run.specs.Sources.{IsBuilt, IsGiven, IsPipelineText, IsPlan, IsRows}
use Rattle.pipe_run.specs.declared.outcome.Outcome.{Outcome}
use Rattle.pipe_run.specs.declared.outcome.Outcome.TheVariants.{Usage}

-- what a run is asked for: the pipeline in the file of this name, over the data in another, in this manner, and whether the audits are wanted
pub record Asked : Type 0 where
  pub pipe : List ℕ
  pub input : Option (List ℕ)
  pub manner : Manner
  pub audit : Bool

-- the text of a run over the rows of its source: the steps and the answer, with the audits behind it where they are wanted
abbrev pub IsToldText : Manner → Bool → Plan → List Row → Result (List ℕ) Outcome → Type 0
IsToldText manner audit plan rows =
    Then (IsRun manner 2 (source_columns plan.origin) plan.middles plan.last rows) (λ told r. r ≡ Ok (whole_text audit told))

-- a run: the file, the plan, what is there to run, the source's rows and the text over them, each where all before it were answered
abbrev pub IsAnswered : Asked → List File → Result (List ℕ) Outcome → Type 0
IsAnswered asked files =
    Then (IsPipelineText asked.pipe files) (λ text.
    Then (IsPlan text) (λ plan.
    Then (IsGiven text plan.origin asked.input) (λ _.
    Then (IsBuilt text) (λ _.
    Then (IsRows plan.origin asked.input files) (λ rows.
    IsToldText asked.manner asked.audit plan rows)))))

-- a check: the file, the plan, and its canonical text
abbrev pub IsChecked : List ℕ → List File → Result (List ℕ) Outcome → Type 0
IsChecked pipe files =
    Then (IsPipelineText pipe files) (λ text.
    Then (IsPlan text) (λ plan r.
    r ≡ Ok (written_text plan)))

-- what words ask for: those that aren't lawful are refused, whatever the files are
abbrev pub IsRuling : Option Command → List File → Result (List ℕ) Outcome → Type 0
IsRuling None files r = r ≡ Err Usage
IsRuling (Some (Run pipe input workers level audit)) files r = IsAnswered (record { pipe = pipe; input = input; manner = planned workers level; audit = audit }) files r
IsRuling (Some (Check pipe)) files r = IsChecked pipe files r

-- a run with a number of workers and a level that it may have
abbrev pub IsRunnable : Command → Type 0
IsRunnable (Run pipe input workers level audit) = IsManner (planned workers level)
IsRunnable (Check pipe) = Unit {0}
