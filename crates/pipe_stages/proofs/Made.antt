-- What a run that makes rows gives.
use Rattle.std.proofs.Common.{◌≡◌, ℕ, ◌+◌, List, [], ◌∷◌, ◌++◌, length, map, Option, Some, None, Ok, Err, refl, ap, sym, ◌∙◌, subst, arith}
use Rattle.std.specs.Global.{Vec}
use Rattle.std.specs.List.{filter}
use Rattle.std.proofs.lemmas.List.{map-id}
use Rattle.par_combiner.specs.Faults.{YieldStands}
use Rattle.par_combiner.specs.declared.faulted.Yield.{Yield}
use Rattle.par_combiner.specs.declared.faulted.Yield.TheVariants as yielded
use Rattle.par_laws.specs.declared.guard.Made.{Made}
use Rattle.par_laws.specs.declared.guard.Made.TheVariants as made
use Rattle.par_laws.specs.declared.tried.FaultAt.{FaultAt}
use Rattle.par_laws.specs.declared.tried.Tried.{Tried}
use Rattle.par_laws.specs.declared.tried.Tried.TheVariants as tried
use Rattle.par_rows.specs.declared.row.Row.{Row}
use Rattle.par_task.specs.Manners.{Manner}
use Rattle.par_task.specs.declared.audit.Leaf.{Leaf}
use Rattle.par_laws.specs.declared.test.Verdict.{Verdict}
use Rattle.par_task.specs.Marking.{no_flag, no_test, passes}
use Rattle.par_jobs.specs.Faults.{IsTried, fault_of, least_fault}
use Rattle.par_jobs.specs.Runs.{IsRunOver, untested}
use Rattle.pipe_stages.specs.Audits.{IsRun}
use Rattle.pipe_stages.specs.Runs.{Gives, collected_run, made_run}
use Rattle.pipe_stages.specs.Stages.{Answer, all_made, each_made, led_by, then_made, unless}
use Rattle.pipe_stages.specs.declared.stop.StepStop.TheVariants.{Fault}

abbrev fault : ℕ → ℕ → Answer
fault at kind = Err (Fault (record { at = at; kind = kind }))

all_values : (at : ℕ) (rows : List Row) → all_made at (map made.Value rows) ≡ Ok rows
all_values at [] = refl
all_values at (row ∷ rows) = ap (led_by row) (all_values (at + 1) rows)

first_fault : (at kind : ℕ) (before : List Row) (after : List (Made Row)) → all_made at (map made.Value before ++ made.Fault kind ∷ after) ≡ fault (at + length before) kind
first_fault at kind [] after = ap (λ n. fault n kind) (omega arith)
first_fault at kind (row ∷ before) after = ap (led_by row) (first_fault (at + 1) kind before after) ∙ ap (λ n. fault n kind) (omega arith)

-- what was made stands for these
abbrev pub Stands : Yield (Vec Row) → List (Made Row) → Type 0
Stands all items = YieldStands (λ (out : Vec Row) (xs : List Row). map (λ row. row) out.items ≡ xs) all items

-- all rows, or the first fault
pub made_gives : (items : List (Made Row)) (audited : Option (List Leaf) → Type 0) (all : Yield (Vec Row)) (leaves : List Leaf) → Stands all items → audited (Some leaves) → Gives (all_made 0 items) audited (made_run all leaves)
made_gives items audited (yielded.All rows) leaves h a = (ap (all_made 0) h.1 ∙ (all_values 0 h.0 ∙ ap Ok (sym h.2 ∙ map-id rows.items)), a)
made_gives items audited (yielded.Fault at kind) leaves h a = ap (all_made 0) h.parts ∙ (first_fault 0 kind h.before h.after ∙ ap (λ n. fault n kind) (omega (arith, h.place)))

-- of the rows that a test chose
pub collected_gives :
    (first : Option FaultAt) (chosen : List Row) (f : Row → Made Row) (audited : Option (List Leaf) → Type 0) (kept : Tried (Yield (Vec Row))) (leaves : List Leaf) →
    IsTried first (λ all. Stands all (map f chosen)) kept → audited (Some leaves) → Gives (then_made f (unless first chosen)) audited (collected_run kept leaves)
collected_gives None chosen f audited (tried.Got all) leaves h a = made_gives (map f chosen) audited all leaves h a
collected_gives None chosen f audited (tried.Fault at) leaves h a = absurd h
collected_gives (Some first) chosen f audited (tried.Got all) leaves h a = absurd h
collected_gives (Some first) chosen f audited (tried.Fault at) leaves h a = ap (λ t. Err (Fault t)) (sym h)

-- The same where the mapper that ran makes what is meant, of these rows.
module _ (bound meant : Row → Made Row) (items rows : List Row) (manner : Manner) (leaves : List Leaf) (same_made : bound ≡ meant) (same_rows : items ≡ rows) where
  pub mapped_gives : (all : Yield (Vec Row)) → Stands all (map bound items) → IsRunOver no_test untested items manner leaves → Gives (each_made meant rows) (IsRun no_test untested rows manner) (made_run all leaves)
  mapped_gives all h run =
      subst (λ f. Gives (each_made f rows) (IsRun no_test untested rows manner) (made_run all leaves)) same_made
      (subst (λ r. Gives (each_made bound r) (IsRun no_test untested r manner) (made_run all leaves)) same_rows
      (made_gives (map bound items) (IsRun no_test untested items manner) all leaves h run))

  pub chosen_gives :
      (tested wanted : Row → Verdict) (kept : Tried (Yield (Vec Row))) → tested ≡ wanted →
      IsTried (least_fault (map tested items)) (λ all. Stands all (map bound (filter (λ x. passes (tested x)) items))) kept → IsRunOver no_flag tested items manner leaves →
      Gives (then_made meant (unless (fault_of no_flag (map wanted rows)) (filter (λ x. passes (wanted x)) rows))) (IsRun no_flag wanted rows manner) (collected_run kept leaves)
  chosen_gives tested wanted kept same_tests h run =
      let given : (Row → Made Row) → List Row → (Row → Verdict) → Type 0 =
      λ f r v. Gives (then_made f (unless (fault_of no_flag (map v r)) (filter (λ x. passes (v x)) r))) (IsRun no_flag v r manner) (collected_run kept leaves) in
      subst (λ f. given f rows wanted) same_made
      (subst (λ r. given bound r wanted) same_rows
      (subst (λ v. given bound items v) same_tests
      (collected_gives (least_fault (map tested items)) (filter (λ x. passes (tested x)) items) bound (IsRun no_flag tested items manner) kept leaves h run)))
