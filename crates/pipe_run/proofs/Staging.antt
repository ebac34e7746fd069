-- From step to step.
use Rattle.std.proofs.Common.{◌≡◌, ◌∙◌, sym, refl, ap, subst, ℕ, ◌+◌, ◌<◌, ◌≤◌, ◌-◌, Bool, true, false, Option, Some, None, Result, Ok, Err, IfOk, IfErr, arith, List, [], ◌∷◌, ◌++◌, length, map, append_assoc, append-nil}
use Rattle.std.specs.Prelude.{◌&&◌}
use Rattle.std.specs.Global.{Vec}
use Rattle.std.proofs.lemmas.List.{length-map}
use Rattle.std.specs.Borrow.{Bor}
use Rattle.par_lists.specs.Cuts.{place}
use Rattle.par_rows.specs.declared.schema.Column.{Column}
use Rattle.par_rows.specs.declared.row.Row.{Row}
use Rattle.pipe_steps.specs.declared.step.Step.{Step}
use Rattle.par_task.specs.Manners.{Manner}
use Rattle.par_task.specs.declared.audit.Leaf.{Leaf}
use Rattle.pipe_steps.specs.Said.{Middle, End, last_view, middle_view}
use Rattle.pipe_steps.specs.Said as x
use Rattle.pipe_checks.specs.Columns.{source_columns, step_columns}
use Rattle.pipe_program.specs.Plans.{Plan}
use Rattle.pipe_program.specs.Reading.{IsSound}
use Rattle.pipe_stages.specs.Stages.{after, is_built, is_sound, ranged}
use Rattle.pipe_stages.specs.Audits.{IsAuditOf}
use Rattle.pipe_stages.specs.Rows.{pointed}
use Rattle.pipe_stages.specs.Stops.{StopsAs}
use Rattle.pipe_stages.specs.declared.stop.StepStop.{StepStop}
use Rattle.pipe_stages.specs.declared.stop.StepStop.TheVariants as stop
use Rattle.pipe_answers.specs.Lasts.{IsAnswerText, IsLastAudit, StopsBy, is_sound_last, last_fault}
use Rattle.pipe_answers.specs.declared.audits.StageAudit.{StageAudit}
use Rattle.pipe_run.specs.declared.stages.Rest.{Rest}
use Rattle.pipe_run.specs.declared.stages.Reached.{Reached}
use Rattle.pipe_run.specs.declared.stages.Reached.TheVariants.{Answer, Table}
use Rattle.pipe_run.specs.Rests.{IsBehind, IsOpening, IsReady, IsRunOf, Notes, Reaches, columns_of, items_told, last_told, middles_of}
use Rattle.pipe_run.specs.Rulings.{Decides, IsInner, Then, UnlessFree}
use Rattle.pipe_run.specs.Answers.{IsToldText}
use Rattle.pipe_run.specs.Sources.{AreBuilt}
use Rattle.pipe_run.proofs.Deciding.{under}
use Rattle.pipe_run.specs.Rulings.Then.{stops, goes}
use Rattle.pipe_run.specs.Runs.{AreAuditsOf, AreLastAudits, IsEnd, IsRun, IsTold, Told, last_items, last_name, stage_outcome, step_items, step_name, told_before, whole_text}
use Rattle.pipe_run.specs.declared.outcome.Outcome.{Outcome}

-- a step that stops is the ruling of the run
pub run_stops : (manner : Manner) (k : ℕ) (cs : List Column) (m : Middle) (ms : List Middle) (last : End) (rows : List Row) (stop : StepStop) → after cs m rows ≡ Err stop → IsRun manner k cs (m ∷ ms) last rows (Err (stage_outcome k stop))
unfolding IsRun
run_stops manner k cs m ms last rows stop e = stops (stage_outcome k stop) (rw e refl) refl

-- a step that gives rows goes on with them
pub run_goes : (manner : Manner) (k : ℕ) (cs : List Column) (m : Middle) (ms : List Middle) (last : End) (rows next : List Row) (audits : List StageAudit) (r : Result Told Outcome)
    → after cs m rows ≡ Ok next → AreAuditsOf manner k cs m rows audits → IsRun manner (k + 1) (step_columns cs m) ms last next r
    → IsRun manner k cs (m ∷ ms) last rows (told_before audits r)
unfolding IsRun
run_goes manner k cs m ms last rows next audits r e told behind = goes next (rw e refl) (audits, told, r, behind, refl)

pub run_ends : (manner : Manner) (k : ℕ) (cs : List Column) (last : End) (rows : List Row) (r : Result Told Outcome) → IsEnd manner k cs last rows r → IsRun manner k cs [] last rows r
unfolding IsRun
run_ends manner k cs last rows r h = h

pub before_both : (a b : List StageAudit) (r : Result Told Outcome) → told_before a (told_before b r) ≡ told_before (a ++ b) r
before_both a b (Ok t) = ap (λ z. Ok (t.0, z)) (sym (append_assoc a b t.1))
before_both a b (Err o) = refl

pub before_none : (r : Result Told Outcome) → told_before [] r ≡ r
before_none (Ok t) = refl
before_none (Err o) = refl

-- ---- what is left

-- a step was taken: a run of what is left behind it is the rest of the run, and less is left
pub record IsTaken (manner : Manner) (rest behind : Rest) (rows next : List Row) (more : List StageAudit) : Type 0 where
  pub goes : (r : Result Told Outcome) → IsRunOf manner behind next r → IsRunOf manner rest rows (told_before more r)
  pub fewer : length behind.steps.now < length rest.steps.now
  pub ready : IsReady behind

and_first : (a b : Bool) → a && b ≡ true → a ≡ true
and_first true b h = refl
and_first false b h = cc h

and_second : (a b : Bool) → a && b ≡ true → b ≡ true
and_second true b h = h
and_second false b h = cc h

-- the first step that is left is built and nothing of it is wrong
pub first_built : (rest : Rest) (step : Step) (steps : List Step) → rest.steps.now ≡ step ∷ steps → IsReady rest → is_built (middle_view step) ≡ true
first_built rest step steps e h = and_first _ _ (rw e at h.built.0)

both_true : (a b : Bool) → a ≡ true → b ≡ true → a && b ≡ true
both_true a b h k = rw (h, k) refl

pub first_sound : (rest : Rest) (step : Step) (steps : List Step) → rest.steps.now ≡ step ∷ steps → IsReady rest → is_sound (columns_of rest) (middle_view step) ≡ true
first_sound rest step steps e h = let f = rw e at h.faultless in both_true _ _ f.0.typed f.0.moving

pub last_sound : (rest : Rest) → rest.steps.now ≡ [] → IsReady rest → is_sound_last (columns_of rest) (last_view rest.last.now) ≡ true
last_sound rest e h = let f = rw e at h.faultless in f.typed

ready_behind : (rest behind : Rest) (step : Step) (steps : List Step) → rest.steps.now ≡ step ∷ steps → IsReady rest → IsBehind rest.number (columns_of rest) (middle_view step) steps rest.last.now behind → IsReady behind
ready_behind rest behind step steps e h b = record {
  faultless = rw (b.columns_are, b.steps_are, b.last_is) (let f = rw e at h.faultless in f.1);
  built = rw (b.steps_are, b.last_is) (and_second _ _ (rw e at h.built.0), h.built.1);
  few = (let few = rw e at h.few in rw (b.number_is, b.steps_are) (omega (arith, few)));
}

pub step_taken : (manner : Manner) (rest behind : Rest) (step : Step) (steps : List Step) (rows next : List Row) (audits : List StageAudit)
    → rest.steps.now ≡ step ∷ steps → IsReady rest → IsBehind rest.number (columns_of rest) (middle_view step) steps rest.last.now behind
    → after (columns_of rest) (middle_view step) rows ≡ Ok next → AreAuditsOf manner rest.number (columns_of rest) (middle_view step) rows audits
    → IsTaken manner rest behind rows next audits
step_taken manner rest behind step steps rows next audits e h b a told = record {
  goes = λ r run. rw e (run_goes manner rest.number (columns_of rest) (middle_view step) (map middle_view steps) (last_view rest.last.now) rows next audits r a told (rw (b.number_is, b.columns_are, b.steps_are, b.last_is) at run));
  fewer = rw (e, b.steps_are) (omega arith);
  ready = ready_behind rest behind step steps e h b;
}

-- the audits that were noted of a step, and those of what is behind it
pub table_reached : (manner : Manner) (rest behind : Rest) (rows : List Row) (made : Vec Row) (before after more : List StageAudit) → IsTaken manner rest behind rows made.items more → after ≡ before ++ more → length made.items ≤ 4194304 → Notes before after (λ told. Reaches manner rest rows told (Table made behind))
table_reached manner rest behind rows made before after more t e small = (more, e, (t.ready, small, t.fewer, t.goes))

reach_before : (manner : Manner) (rest behind : Rest) (rows next : List Row) (more told : List StageAudit) (reached : Reached) → IsTaken manner rest behind rows next more → Reaches manner behind next told reached → Reaches manner rest rows (more ++ told) reached
reach_before manner rest behind rows next more told (Answer text) t r = t.goes (Ok (text.items, told)) r
reach_before manner rest behind rows next more told (Table made left) t r = (
  r.0,
  r.1,
  (let less = r.2 in let fewer = t.fewer in omega (arith, less, fewer)),
  (λ q run. rw (← before_both more told q) (t.goes (told_before told q) (r.3 q run))),
)

pub further_reached : (manner : Manner) (rest behind : Rest) (rows next : List Row) (before noted after more : List StageAudit) (reached : Reached) → IsTaken manner rest behind rows next more → noted ≡ before ++ more → Notes noted after (λ told. Reaches manner behind next told reached) → Notes before after (λ told. Reaches manner rest rows told reached)
further_reached manner rest behind rows next before noted after more reached t e n = (more ++ n.0, n.1 ∙ ap (λ z. z ++ n.0) e ∙ append_assoc before more n.0, reach_before manner rest behind rows next more n.0 reached t n.2)

-- why a run stops
pub stops_further : (manner : Manner) (rest behind : Rest) (rows next : List Row) (more : List StageAudit) (o : Outcome) → IsTaken manner rest behind rows next more → IsInner o × UnlessFree o (IsRunOf manner behind next (Err o)) → IsInner o × UnlessFree o (IsRunOf manner rest rows (Err o))
stops_further manner rest behind rows next more o t h = (h.0, under _ _ o (t.goes (Err o)) h.1)

pub step_stopped : (manner : Manner) (rest : Rest) (step : Step) (steps : List Step) (rows : List Row) (stop : StepStop) → rest.steps.now ≡ step ∷ steps → StopsAs (after (columns_of rest) (middle_view step) rows) stop → IsInner (stage_outcome rest.number stop) × UnlessFree (stage_outcome rest.number stop) (IsRunOf manner rest rows (Err (stage_outcome rest.number stop)))
step_stopped manner rest step steps rows (stop.Fault f) e h = (tt, rw e (run_stops manner rest.number (columns_of rest) (middle_view step) (map middle_view steps) (last_view rest.last.now) rows (stop.Fault f) h))
step_stopped manner rest step steps rows stop.TooMany e h = (tt, rw e (run_stops manner rest.number (columns_of rest) (middle_view step) (map middle_view steps) (last_view rest.last.now) rows stop.TooMany h))
step_stopped manner rest step steps rows stop.Memory e h = (tt, tt)

pub last_stopped : (manner : Manner) (rest : Rest) (rows : List Row) (stop : StepStop) → rest.steps.now ≡ [] → StopsBy (last_fault (columns_of rest) (last_view rest.last.now) rows) stop → IsInner (stage_outcome rest.number stop) × UnlessFree (stage_outcome rest.number stop) (IsRunOf manner rest rows (Err (stage_outcome rest.number stop)))
last_stopped manner rest rows (stop.Fault f) e h = (tt, rw e (run_ends manner rest.number (columns_of rest) (last_view rest.last.now) rows (Err (stage_outcome rest.number (stop.Fault f))) (f, h, refl)))
last_stopped manner rest rows stop.TooMany e h = absurd h
last_stopped manner rest rows stop.Memory e h = (tt, tt)

pub last_reached : (manner : Manner) (rest : Rest) (rows : List Row) (text : List ℕ) (before after : List StageAudit) → rest.steps.now ≡ [] → last_fault (columns_of rest) (last_view rest.last.now) rows ≡ None → IsAnswerText (columns_of rest) (last_view rest.last.now) rows text
    → Notes before after (AreLastAudits manner rest.number (columns_of rest) (last_view rest.last.now) rows) → Notes before after (λ told. IsRunOf manner rest rows (Ok (text, told)))
last_reached manner rest rows text before after e none answer noted = (
  noted.0,
  noted.1,
  rw e (run_ends manner rest.number (columns_of rest) (last_view rest.last.now) rows _ (none, answer, noted.2)),
)

-- ---- what code reckons of the items

items_last : (l : End) (refs : List (Bor Row)) → last_told l (length refs) ≡ last_items l (pointed refs)
items_last (x.SegmentLength e n) refs = ap (λ k. k - place n) (sym (length-map refs (λ r. r.now)))
items_last x.Print refs = sym (length-map refs (λ r. r.now))
items_last x.Size refs = sym (length-map refs (λ r. r.now))
items_last (x.Count e) refs = sym (length-map refs (λ r. r.now))
items_last (x.Sum e) refs = sym (length-map refs (λ r. r.now))
items_last (x.Product e) refs = sym (length-map refs (λ r. r.now))
items_last (x.Min e) refs = sym (length-map refs (λ r. r.now))
items_last (x.Max e) refs = sym (length-map refs (λ r. r.now))
items_last (x.MkString e s) refs = sym (length-map refs (λ r. r.now))
items_last (x.Find e) refs = sym (length-map refs (λ r. r.now))
items_last (x.Exists e) refs = sym (length-map refs (λ r. r.now))
items_last (x.Forall e) refs = sym (length-map refs (λ r. r.now))
items_last (x.IndexWhere e) refs = sym (length-map refs (λ r. r.now))
items_last (x.LastIndexWhere e) refs = sym (length-map refs (λ r. r.now))
items_last (x.Span e) refs = sym (length-map refs (λ r. r.now))
items_last (x.Partition e) refs = sym (length-map refs (λ r. r.now))
items_last (x.SplitAt n) refs = sym (length-map refs (λ r. r.now))
items_last (x.ToSet e) refs = sym (length-map refs (λ r. r.now))
items_last (x.ToMap k e) refs = sym (length-map refs (λ r. r.now))

items_step : (cs : List Column) (m : Middle) (refs : List (Bor Row)) (next : List Row) → after cs m (pointed refs) ≡ Ok next → items_told m (length refs) (length next) ≡ step_items m (pointed refs)
items_step cs (x.ZipRange a b c n) refs next e = let same : ranged a b c (pointed refs) ≡ next = cc e in ap length (sym same)
items_step cs (x.Filter p) refs next e = sym (length-map refs (λ r. r.now))
items_step cs (x.FilterNot p) refs next e = sym (length-map refs (λ r. r.now))
items_step cs (x.Map fs) refs next e = sym (length-map refs (λ r. r.now))
items_step cs (x.Collect fs p) refs next e = sym (length-map refs (λ r. r.now))
items_step cs (x.FlatMap n s) refs next e = sym (length-map refs (λ r. r.now))
items_step cs (x.Take n) refs next e = sym (length-map refs (λ r. r.now))
items_step cs (x.Drop n) refs next e = sym (length-map refs (λ r. r.now))
items_step cs (x.Slice a b) refs next e = sym (length-map refs (λ r. r.now))
items_step cs (x.TakeWhile p) refs next e = sym (length-map refs (λ r. r.now))
items_step cs (x.DropWhile p) refs next e = sym (length-map refs (λ r. r.now))
items_step cs (x.ZipWithIndex n) refs next e = sym (length-map refs (λ r. r.now))
items_step cs x.Reverse refs next e = sym (length-map refs (λ r. r.now))
items_step cs (x.Scan how p n) refs next e = sym (length-map refs (λ r. r.now))
items_step cs (x.GroupBy ks ts) refs next e = sym (length-map refs (λ r. r.now))
items_step cs x.Distinct refs next e = sym (length-map refs (λ r. r.now))

told_by : (k : ℕ) (name other : List ℕ) (n m : ℕ) (leaves : Option (List Leaf)) (audits : List StageAudit) → name ≡ other → n ≡ m → IsTold k name n leaves audits → IsTold k other m leaves audits
told_by k name other n m leaves audits e f h = rw (← e, ← f) h

-- the audits that were noted of a step
pub noted_step : (manner : Manner) (cs : List Column) (m : Middle) (refs : List (Bor Row)) (next : List Row) (k : ℕ) (name : List ℕ) (items : ℕ) (leaves : Option (List Leaf)) (before noted : List StageAudit)
    → after cs m (pointed refs) ≡ Ok next → IsAuditOf cs m (pointed refs) manner leaves → name ≡ step_name m → items ≡ items_told m (length refs) (length next) → Notes before noted (IsTold k name items leaves) → Notes before noted (AreAuditsOf manner k cs m (pointed refs))
noted_step manner cs m refs next k name items leaves before noted e audit is count n = (n.0, n.1, (leaves, audit, told_by k name _ items _ leaves n.0 is (count ∙ items_step cs m refs next e) n.2))

pub noted_last : (manner : Manner) (cs : List Column) (l : End) (refs : List (Bor Row)) (k : ℕ) (name : List ℕ) (items : ℕ) (leaves : Option (List Leaf)) (before noted : List StageAudit)
    → IsLastAudit cs l (pointed refs) manner leaves → name ≡ last_name l → items ≡ last_told l (length refs) → Notes before noted (IsTold k name items leaves) → Notes before noted (AreLastAudits manner k cs l (pointed refs))
noted_last manner cs l refs k name items leaves before noted audit is count n = (n.0, n.1, (leaves, audit, told_by k name _ items _ leaves n.0 is (count ∙ items_last l refs) n.2))

-- the same of whatever a call behind the step answered
pub further_any : (manner : Manner) (rest behind : Rest) (rows next : List Row) (before noted after more : List StageAudit) (r : Result Reached Outcome) → IsTaken manner rest behind rows next more → noted ≡ before ++ more → IfOk r (λ reached. Notes noted after (λ told. Reaches manner behind next told reached)) → IfOk r (λ reached. Notes before after (λ told. Reaches manner rest rows told reached))
further_any manner rest behind rows next before noted after more (Ok reached) t e h = further_reached manner rest behind rows next before noted after more reached t e h
further_any manner rest behind rows next before noted after more (Err o) t e h = h

pub stops_any : {A : Type 0} (manner : Manner) (rest behind : Rest) (rows next : List Row) (more : List StageAudit) (r : Result A Outcome) → IsTaken manner rest behind rows next more → IfErr r (λ o. IsInner o × UnlessFree o (IsRunOf manner behind next (Err o))) → IfErr r (λ o. IsInner o × UnlessFree o (IsRunOf manner rest rows (Err o)))
stops_any manner rest behind rows next more (Ok x) t h = h
stops_any manner rest behind rows next more (Err o) t h = stops_further manner rest behind rows next more o t h

-- ---- all of it

-- the first step of a plan that is read
pub all_ready : (p : Plan) (rest : Rest) → IsSound p → AreBuilt p.middles p.last → IsOpening p rest → IsReady rest
all_ready p rest sound built h = record {
  faultless = rw (h.columns_are, h.middles_are, h.last_is) sound.steps;
  built = rw (h.middles_are, h.last_is) built;
  few = (let few = sound.few in let number = h.number_is in let size : length rest.steps.now ≡ length p.middles = sym (length-map rest.steps.now middle_view) ∙ ap length h.middles_are in omega (arith, few, size, number));
}

pub told_text : (manner : Manner) (audit : Bool) (p : Plan) (rest : Rest) (rows : List Row) (answer text : List ℕ) (audits : List StageAudit) → IsOpening p rest → Notes [] audits (λ told. IsRunOf manner rest rows (Ok (answer, told))) → text ≡ whole_text audit (answer, audits) → Decides (IsToldText manner audit p rows) (Ok text)
told_text manner audit p rest rows answer text audits h n e =
    let run : IsRun manner 2 (source_columns p.origin) p.middles p.last rows (Ok (answer, n.0)) = rw (h.number_is, h.columns_are, h.middles_are, h.last_is) at n.2 in
    record { ruled = goes (answer, audits) (rw n.1 run) (rw e refl); inner = tt }

pub told_stopped : (manner : Manner) (audit : Bool) (p : Plan) (rest : Rest) (rows : List Row) (o : Outcome) → IsOpening p rest → IsInner o × UnlessFree o (IsRunOf manner rest rows (Err o)) → Decides (IsToldText manner audit p rows) (Err o)
told_stopped manner audit p rest rows o h s = record { ruled = under _ _ o (λ r. stops o (rw (h.number_is, h.columns_are, h.middles_are, h.last_is) at r) refl) s.1; inner = s.0 }
