-- A run over the rows of a source: the steps in order, the answer, and the audits of both.
use Rattle.std.specs.Prelude.{◌≡◌, ◌+◌, ◌-◌, ℕ, ℤ, Bool, true, false, List, [], ◌∷◌, ◌++◌, length, min, codes, Option, Some, None, Result, Ok, Err}
use Rattle.par_laws.specs.declared.tried.FaultAt.{FaultAt}
use Rattle.par_lists.specs.Cuts.{place}
use Rattle.par_rows.specs.declared.schema.Column.{Column}
use Rattle.par_rows.specs.declared.row.Row.{Row}
use Rattle.par_task.specs.Manners.{Manner}
use Rattle.par_task.specs.declared.audit.Leaf.{Leaf}
use Rattle.pipe_steps.specs.Said.{Middle, End}
use Rattle.pipe_steps.specs.Said as x
use Rattle.pipe_checks.specs.Columns.{step_columns}
use Rattle.pipe_stages.specs.Stages.{after, ranged}
use Rattle.pipe_stages.specs.Audits.{IsAuditOf}
use Rattle.pipe_stages.specs.declared.stop.StepStop.{StepStop}
use Rattle.pipe_stages.specs.declared.stop.StepStop.TheVariants as stops
use Rattle.pipe_answers.specs.declared.audits.StageAudit.{StageAudit}
use Rattle.pipe_answers.specs.AuditTexts.{audits_text}
use Rattle.pipe_answers.specs.Lasts.{IsAnswerText, IsLastAudit, last_fault}
use Rattle.pipe_run.specs.Rulings.{Then}
use Rattle.pipe_run.specs.declared.outcome.Counted.TheVariants.{FlatMapItems}
use Rattle.pipe_run.specs.declared.outcome.Outcome.{Outcome}
use Rattle.pipe_run.specs.declared.outcome.Outcome.TheVariants.{Limit, Memory, Fault}

-- why the step with this number stops, as an outcome
abbrev pub stage_outcome : ℕ → StepStop → Outcome
stage_outcome k (stops.Fault f) = Fault k f.at f.kind
stage_outcome k stops.TooMany = Limit FlatMapItems 4194305 4194304
stage_outcome k stops.Memory = Memory

abbrev pub stage_result : {A : Type 0} → ℕ → Result A StepStop → Result A Outcome
stage_result k (Ok a) = Ok a
stage_result k (Err stop) = Err (stage_outcome k stop)

-- ---- audits

-- the first word of a step
abbrev pub step_name : Middle → List ℕ
step_name (x.Filter e) = codes "filter"
step_name (x.FilterNot e) = codes "filterNot"
step_name (x.Map fs) = codes "map"
step_name (x.Collect fs e) = codes "collect"
step_name (x.FlatMap n s) = codes "flatMap"
step_name (x.Take n) = codes "take"
step_name (x.Drop n) = codes "drop"
step_name (x.Slice a b) = codes "slice"
step_name (x.TakeWhile e) = codes "takeWhile"
step_name (x.DropWhile e) = codes "dropWhile"
step_name (x.ZipWithIndex n) = codes "zipWithIndex"
step_name (x.ZipRange a b c n) = codes "zip"
step_name x.Reverse = codes "reverse"
step_name (x.Scan how e n) = codes "scan"
step_name (x.GroupBy ks ts) = codes "groupBy"
step_name x.Distinct = codes "distinct"

abbrev pub last_name : End → List ℕ
last_name x.Print = codes "print"
last_name x.Size = codes "size"
last_name (x.Count e) = codes "count"
last_name (x.Sum e) = codes "sum"
last_name (x.Product e) = codes "product"
last_name (x.Min e) = codes "min"
last_name (x.Max e) = codes "max"
last_name (x.MkString e s) = codes "mkString"
last_name (x.Find e) = codes "find"
last_name (x.Exists e) = codes "exists"
last_name (x.Forall e) = codes "forall"
last_name (x.IndexWhere e) = codes "indexWhere"
last_name (x.LastIndexWhere e) = codes "lastIndexWhere"
last_name (x.SegmentLength e n) = codes "segmentLength"
last_name (x.Span e) = codes "span"
last_name (x.Partition e) = codes "partition"
last_name (x.SplitAt n) = codes "splitAt"
last_name (x.ToSet e) = codes "toSet"
last_name (x.ToMap k e) = codes "toMap"

-- how many items the job of a step has that gets these rows: the rows, but for `zip` the pairs
abbrev pub step_items : Middle → List Row → ℕ
step_items (x.ZipRange a b c n) rows = length (ranged a b c rows)
step_items m rows = length rows

-- the same of a last step: for `segmentLength` the rows from its index on
abbrev pub last_items : End → List Row → ℕ
last_items (x.SegmentLength e n) rows = length rows - place n
last_items l rows = length rows

-- what is told of a step: its number, its name, how many items its job had, and its leaves; nothing of one without a job
abbrev pub IsTold : ℕ → List ℕ → ℕ → Option (List Leaf) → List StageAudit → Type 0
IsTold k name n None audits = audits ≡ []
IsTold k name n (Some leaves) audits = (a : StageAudit) × (audits ≡ a ∷ []) × (a.stage ≡ k) × (a.name.now ≡ name) × (a.items ≡ n) × (a.audit ≡ leaves)

-- these are the audits of a step that gets these rows
abbrev pub AreAuditsOf : Manner → ℕ → List Column → Middle → List Row → List StageAudit → Type 0
AreAuditsOf manner k cs m rows audits = (leaves : Option (List Leaf)) × IsAuditOf cs m rows manner leaves × IsTold k (step_name m) (step_items m rows) leaves audits

abbrev pub AreLastAudits : Manner → ℕ → List Column → End → List Row → List StageAudit → Type 0
AreLastAudits manner k cs l rows audits = (leaves : Option (List Leaf)) × IsLastAudit cs l rows manner leaves × IsTold k (last_name l) (last_items l rows) leaves audits

-- ---- steps

-- the text of an answer, and the audits in step order
abbrev pub Told : Type 0
Told = List ℕ × List StageAudit

-- audits that come before those of the steps behind
abbrev pub told_before : List StageAudit → Result Told Outcome → Result Told Outcome
told_before audits (Ok t) = Ok (t.0, audits ++ t.1)
told_before audits (Err o) = Err o

-- the last step, with this number: its answer and its audit, or the fault in their place
abbrev pub IsEnd : Manner → ℕ → List Column → End → List Row → Result Told Outcome → Type 0
IsEnd manner k cs last rows (Ok t) = (last_fault cs last rows ≡ None) × IsAnswerText cs last rows t.0 × AreLastAudits manner k cs last rows t.1
IsEnd manner k cs last rows (Err o) = (fault : FaultAt) × (last_fault cs last rows ≡ Some fault) × (o ≡ Fault k fault.at fault.kind)

-- the steps and the last step, of which the first has this number: the first that stops decides
unfoldable pub IsRun : Manner → ℕ → List Column → List Middle → End → List Row → Result Told Outcome → Type 0
IsRun manner k cs [] last rows r = IsEnd manner k cs last rows r
IsRun manner k cs (m ∷ ms) last rows r =
    Then (λ q. q ≡ stage_result k (after cs m rows)) (λ next r.
    (audits : List StageAudit) × AreAuditsOf manner k cs m rows audits × (behind : Result Told Outcome) × IsRun manner (k + 1) (step_columns cs m) ms last next behind × (r ≡ told_before audits behind)) r

-- the whole text: the answer, and behind it the audits where they are asked for
abbrev pub whole_text : Bool → Told → List ℕ
whole_text false t = t.0
whole_text true t = t.0 ++ audits_text t.1
