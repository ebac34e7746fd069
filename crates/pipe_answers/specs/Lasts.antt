-- The last step: the fault that it has, or the text of its answer, and what its audit tells of.
use Rattle.std.specs.Prelude.{◌≡◌, ◌+◌, ◌++◌, ℕ, ℤ, pos, Bool, true, false, List, [], ◌∷◌, length, map, take, drop, take_while, Option, Some, None, Result, Ok, Err, encode_utf8_all}
use Rattle.std.specs.Global.{Vec}
use Rattle.std.specs.Int.{int_min, int_max}
use Rattle.std.specs.List.{Contains, count_by, filter, flat_map, fold, list_all, list_any, reduce}
use Rattle.par_laws.specs.Wrapping.{wrapped_product, wrapped_sum}
use Rattle.par_laws.specs.declared.tried.FaultAt.{FaultAt}
use Rattle.par_lists.specs.Choices.{filter_not}
use Rattle.par_lists.specs.Cuts.{drop_while, place, segment_length}
use Rattle.par_lists.specs.Searches.{index_where, last_index_where}
use Rattle.par_rows.specs.declared.schema.Column.{Column}
use Rattle.par_rows.specs.declared.row.Row.{Row}
use Rattle.par_task.specs.Manners.{Manner}
use Rattle.par_task.specs.Marking.{abort_flag, high_flag, low_flag, no_flag, no_test}
use Rattle.par_task.specs.declared.audit.Leaf.{Leaf}
use Rattle.par_jobs.specs.Faults.{fault_at, fault_of}
use Rattle.par_jobs.specs.Runs.{untested}
use Rattle.pipe_expr.specs.Grammar.{Tree}
use Rattle.pipe_steps.specs.Said.{Text, End}
use Rattle.pipe_steps.specs.Said as x
use Rattle.pipe_checks.specs.Kinds.{fits}
use Rattle.pipe_checks.specs.Uses.{end_passes}
use Rattle.pipe_eval.specs.Answers.{number_made, text_made, verdict_on}
use Rattle.pipe_stages.specs.declared.stop.StepStop.{StepStop}
use Rattle.pipe_stages.specs.declared.stop.StepStop.TheVariants.{Fault, TooMany, Memory}
use Rattle.pipe_stages.specs.Audits.{IsRun}
use Rattle.pipe_stages.specs.Stages.{denied, holds}
use Rattle.pipe_answers.specs.Makes.{made_fault, made_values}
use Rattle.pipe_answers.specs.Texts.{count_text, found_text, line, number_or_none, number_text, parts_text, table_text, truth_text}

-- the last steps that are built
abbrev pub is_built_last : End → Bool
is_built_last (x.ToSet e) = false
is_built_last (x.ToMap k e) = false
is_built_last _ = true

-- each expression has the kind that it must have over these columns
abbrev pub is_sound_last : List Column → End → Bool
is_sound_last cs l = end_passes (fits cs) l

-- the fault in the place of the answer, if there is one; its index counts in all the rows
abbrev pub last_fault : List Column → End → List Row → Option FaultAt
last_fault cs (x.Count e) rows = fault_of no_flag (map (verdict_on cs e) rows)
last_fault cs (x.Sum e) rows = made_fault (map (number_made cs e) rows)
last_fault cs (x.Product e) rows = made_fault (map (number_made cs e) rows)
last_fault cs (x.Min e) rows = made_fault (map (number_made cs e) rows)
last_fault cs (x.Max e) rows = made_fault (map (number_made cs e) rows)
last_fault cs (x.MkString e sep) rows = made_fault (map (text_made cs e) rows)
last_fault cs (x.Find e) rows = fault_of abort_flag (map (verdict_on cs e) rows)
last_fault cs (x.Exists e) rows = fault_of abort_flag (map (verdict_on cs e) rows)
last_fault cs (x.Forall e) rows = fault_of abort_flag (map (denied cs e) rows)
last_fault cs (x.IndexWhere e) rows = fault_of low_flag (map (verdict_on cs e) rows)
last_fault cs (x.LastIndexWhere e) rows = fault_of high_flag (map (verdict_on cs e) rows)
last_fault cs (x.SegmentLength e from) rows = fault_at (map (verdict_on cs e) rows) (place from + segment_length (holds cs e) (place from) rows)
last_fault cs (x.Span e) rows = fault_of low_flag (map (denied cs e) rows)
last_fault cs (x.Partition e) rows = fault_of no_flag (map (verdict_on cs e) rows)
last_fault cs _ rows = None

-- the numbers of the rows, where none faults
abbrev pub numbers : List Column → Tree → List Row → List ℤ
numbers cs e rows = made_values (map (number_made cs e) rows)

-- texts with a separator between them
abbrev pub separated_by : Text → List Text → Text
separated_by sep [] = []
separated_by sep (t ∷ ts) = t ++ flat_map (λ u. sep ++ u) ts

-- some row that holds, or none where none does
abbrev pub IsFoundRow : (Row → Bool) → List Row → Option Row → Type 0
IsFoundRow holds rows None = list_any holds rows ≡ false
IsFoundRow holds rows (Some row) = Contains rows row × (holds row ≡ true)

-- The text of the answer, where no fault stands in its place. All but that of `find` is determined.
abbrev pub IsAnswerText : List Column → End → List Row → List ℕ → Type 0
IsAnswerText cs x.Print rows text = text ≡ table_text cs rows
IsAnswerText cs x.Size rows text = text ≡ count_text (length rows)
IsAnswerText cs (x.Count e) rows text = text ≡ count_text (count_by (holds cs e) rows)
IsAnswerText cs (x.Sum e) rows text = text ≡ number_text (fold wrapped_sum (pos 0) (numbers cs e rows))
IsAnswerText cs (x.Product e) rows text = text ≡ number_text (fold wrapped_product (pos 1) (numbers cs e rows))
IsAnswerText cs (x.Min e) rows text = text ≡ number_or_none (reduce int_min (numbers cs e rows))
IsAnswerText cs (x.Max e) rows text = text ≡ number_or_none (reduce int_max (numbers cs e rows))
IsAnswerText cs (x.MkString e sep) rows text = text ≡ line (encode_utf8_all (separated_by sep (made_values (map (text_made cs e) rows))))
IsAnswerText cs (x.Find e) rows text = (found : Option Row) × IsFoundRow (holds cs e) rows found × (text ≡ found_text cs found)
IsAnswerText cs (x.Exists e) rows text = text ≡ truth_text (list_any (holds cs e) rows)
IsAnswerText cs (x.Forall e) rows text = text ≡ truth_text (list_all (holds cs e) rows)
IsAnswerText cs (x.IndexWhere e) rows text = text ≡ number_text (index_where (holds cs e) rows)
IsAnswerText cs (x.LastIndexWhere e) rows text = text ≡ number_text (last_index_where (holds cs e) rows)
IsAnswerText cs (x.SegmentLength e from) rows text = text ≡ count_text (segment_length (holds cs e) (place from) rows)
IsAnswerText cs (x.Span e) rows text = text ≡ parts_text (take_while (holds cs e) rows) (drop_while (holds cs e) rows)
IsAnswerText cs (x.Partition e) rows text = text ≡ parts_text (filter (holds cs e) rows) (filter_not (holds cs e) rows)
IsAnswerText cs (x.SplitAt n) rows text = text ≡ parts_text (take (place n) rows) (drop (place n) rows)
IsAnswerText cs _ rows text = ⊥

-- The audit of a last step. That of `segmentLength` is of the rows from its index on.
abbrev pub IsLastAudit : List Column → End → List Row → Manner → Option (List Leaf) → Type 0
IsLastAudit cs (x.Count e) rows manner audit = IsRun no_flag (verdict_on cs e) rows manner audit
IsLastAudit cs (x.Sum e) rows manner audit = IsRun no_test untested rows manner audit
IsLastAudit cs (x.Product e) rows manner audit = IsRun no_test untested rows manner audit
IsLastAudit cs (x.Min e) rows manner audit = IsRun no_test untested rows manner audit
IsLastAudit cs (x.Max e) rows manner audit = IsRun no_test untested rows manner audit
IsLastAudit cs (x.MkString e sep) rows manner audit = IsRun no_test untested rows manner audit
IsLastAudit cs (x.Find e) rows manner audit = IsRun abort_flag (verdict_on cs e) rows manner audit
IsLastAudit cs (x.Exists e) rows manner audit = IsRun abort_flag (verdict_on cs e) rows manner audit
IsLastAudit cs (x.Forall e) rows manner audit = IsRun abort_flag (denied cs e) rows manner audit
IsLastAudit cs (x.IndexWhere e) rows manner audit = IsRun low_flag (verdict_on cs e) rows manner audit
IsLastAudit cs (x.LastIndexWhere e) rows manner audit = IsRun high_flag (verdict_on cs e) rows manner audit
IsLastAudit cs (x.SegmentLength e from) rows manner audit = IsRun low_flag (denied cs e) (drop (place from) rows) manner audit
IsLastAudit cs (x.Span e) rows manner audit = IsRun low_flag (denied cs e) rows manner audit
IsLastAudit cs (x.Partition e) rows manner audit = IsRun no_flag (verdict_on cs e) rows manner audit
IsLastAudit cs _ rows manner audit = audit ≡ None

-- it stopped by the fault, or for want of memory
abbrev pub StopsBy : Option FaultAt → StepStop → Type 0
StopsBy fault (Fault at) = fault ≡ Some at
StopsBy fault TooMany = ⊥
StopsBy fault Memory = Unit {0}

-- No fault, a text of the answer and its audit; or a stop.
abbrev pub Gives : Option FaultAt → (List ℕ → Type 0) → (Option (List Leaf) → Type 0) → Result (Vec ℕ × Option (List Leaf)) StepStop → Type 0
Gives fault is_text is_audit (Ok r) = (fault ≡ None) × is_text r.0.items × is_audit r.1
Gives fault is_text is_audit (Err stop) = StopsBy fault stop
