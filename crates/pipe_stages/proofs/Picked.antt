-- What a run that picks rows gives.
use Rattle.std.proofs.Common.{◌≡◌, ℕ, List, map, Option, Some, None, Ok, Err, ap, sym, ◌∙◌, subst}
use Rattle.std.specs.Borrow.{Bor}
use Rattle.std.specs.Global.{Vec}
use Rattle.std.proofs.lemmas.List.{map-id}
use Rattle.par_laws.specs.declared.test.Verdict.{Verdict}
use Rattle.par_laws.specs.declared.tried.FaultAt.{FaultAt}
use Rattle.par_laws.specs.declared.tried.Tried.{Tried}
use Rattle.par_laws.specs.declared.tried.Tried.TheVariants as tried
use Rattle.par_rows.specs.declared.row.Row.{Row}
use Rattle.par_task.specs.Manners.{Manner}
use Rattle.par_task.specs.Marking.{Kind}
use Rattle.par_task.specs.declared.audit.Leaf.{Leaf}
use Rattle.par_jobs.specs.Faults.{IsTried}
use Rattle.par_jobs.specs.Runs.{IsRunOver}
use Rattle.pipe_stages.specs.Audits.{IsRun}
use Rattle.pipe_stages.specs.Rows.{pointed}
use Rattle.pipe_stages.specs.Runs.{Gives, ran}
use Rattle.pipe_stages.specs.Stages.{unless}
use Rattle.pipe_stages.specs.declared.stop.StepStop.TheVariants.{Fault}

tried_gives :
    (first : Option FaultAt) (rows : List Row) (audited : Option (List Leaf) → Type 0) (kept : Tried (Vec (Bor Row))) (leaves : List Leaf) →
    IsTried first (λ out. pointed out.items ≡ map (λ row. row) rows) kept → audited (Some leaves) → Gives (unless first rows) audited (ran kept leaves)
tried_gives None rows audited (tried.Got refs) leaves h a = (ap Ok (sym (h ∙ map-id rows)), a)
tried_gives None rows audited (tried.Fault fault) leaves h a = absurd h
tried_gives (Some first) rows audited (tried.Got refs) leaves h a = absurd h
tried_gives (Some first) rows audited (tried.Fault fault) leaves h a = ap (λ f. Err (Fault f)) (sym h)

-- Rows that a test chooses: `first` is the fault by the test's verdicts, `choose` what it chooses, and `told` the verdict
-- that the audit tells of. The test that ran answers as the one that is meant.
module _
    (first : (Row → Verdict) → List Row → Option FaultAt) (choose : (Row → Verdict) → List Row → List Row) (kind : Kind) (told : (Row → Verdict) → Row → Verdict) (manner : Manner)
    (kept : Tried (Vec (Bor Row))) (leaves : List Leaf) where
  abbrev pub Chosen : (Row → Verdict) → List Row → Type 0
  Chosen verdict rows = Gives (unless (first verdict rows) (choose verdict rows)) (IsRun kind (told verdict) rows manner) (ran kept leaves)

  pub chosen :
      (bound meant : Row → Verdict) (items rows : List Row) → bound ≡ meant → items ≡ rows →
      IsTried (first bound items) (λ out. pointed out.items ≡ map (λ row. row) (choose bound items)) kept → IsRunOver kind (told bound) items manner leaves → Chosen meant rows
  chosen bound meant items rows e f h a =
      subst (λ v. Chosen v rows) e (subst (Chosen bound) f (tried_gives (first bound items) (choose bound items) (IsRun kind (told bound) items manner) kept leaves h a))
