-- Of which run a step's audit tells.
use Rattle.std.specs.Prelude.{◌≡◌, ℕ, List, Option, Some, None}
use Rattle.par_laws.specs.declared.test.Verdict.{Verdict}
use Rattle.par_rows.specs.declared.schema.Column.{Column}
use Rattle.par_rows.specs.declared.row.Row.{Row}
use Rattle.par_task.specs.Marking.{Kind, low_flag, no_flag, no_test}
use Rattle.par_task.specs.Manners.{Manner}
use Rattle.par_task.specs.declared.audit.Leaf.{Leaf}
use Rattle.par_jobs.specs.Runs.{IsRunOver, untested}
use Rattle.pipe_eval.specs.Answers.{verdict_on}
use Rattle.pipe_steps.specs.Said.{Middle}
use Rattle.pipe_steps.specs.Said as x
use Rattle.pipe_stages.specs.Stages.{denied, ranged}

-- there are leaves, and they are those of a run over these rows with that test
abbrev pub IsRun : Kind → (Row → Verdict) → List Row → Manner → Option (List Leaf) → Type 0
IsRun kind verdict rows manner (Some leaves) = IsRunOver kind verdict rows manner leaves
IsRun kind verdict rows manner None = ⊥

-- The audit of a step. `collect` tells of its test, and a zip with a range of its pairs, which are as many as its rows.
abbrev pub IsAuditOf : List Column → Middle → List Row → Manner → Option (List Leaf) → Type 0
IsAuditOf cs (x.Filter e) rows manner audit = IsRun no_flag (verdict_on cs e) rows manner audit
IsAuditOf cs (x.FilterNot e) rows manner audit = IsRun no_flag (verdict_on cs e) rows manner audit
IsAuditOf cs (x.Map fields) rows manner audit = IsRun no_test untested rows manner audit
IsAuditOf cs (x.Collect fields e) rows manner audit = IsRun no_flag (verdict_on cs e) rows manner audit
IsAuditOf cs (x.FlatMap name sep) rows manner audit = IsRun no_test untested rows manner audit
IsAuditOf cs (x.TakeWhile e) rows manner audit = IsRun low_flag (denied cs e) rows manner audit
IsAuditOf cs (x.DropWhile e) rows manner audit = IsRun low_flag (denied cs e) rows manner audit
IsAuditOf cs (x.ZipWithIndex name) rows manner audit = IsRun no_test untested rows manner audit
IsAuditOf cs (x.ZipRange a b c name) rows manner audit = IsRun no_test untested (ranged a b c rows) manner audit
IsAuditOf cs x.Reverse rows manner audit = IsRun no_test untested rows manner audit
IsAuditOf cs _ rows manner audit = audit ≡ None
