-- What a last step gave, clause by clause.
use Rattle.std.proofs.Common.{◌≡◌, ℕ, List, Option, None, Result, Ok, Err, IfOk, IfErr}
use Rattle.std.specs.Global.{Vec}
use Rattle.par_laws.specs.declared.tried.FaultAt.{FaultAt}
use Rattle.par_task.specs.declared.audit.Leaf.{Leaf}
use Rattle.pipe_stages.specs.declared.stop.StepStop.{StepStop}
use Rattle.pipe_answers.specs.Lasts.{Gives, StopsBy}

module _ (fault : Option FaultAt) (is_text : List ℕ → Type 0) (is_audit : Option (List Leaf) → Type 0) where
  pub given_fault : (r : Result (Vec ℕ × Option (List Leaf)) StepStop) → Gives fault is_text is_audit r → IfOk r (λ _. fault ≡ None)
  given_fault (Ok r) h = h.0
  given_fault (Err stop) h = tt

  pub given_text : (r : Result (Vec ℕ × Option (List Leaf)) StepStop) → Gives fault is_text is_audit r → IfOk r (λ r. is_text r.0.items)
  given_text (Ok r) h = h.1
  given_text (Err stop) h = tt

  pub given_audit : (r : Result (Vec ℕ × Option (List Leaf)) StepStop) → Gives fault is_text is_audit r → IfOk r (λ r. is_audit r.1)
  given_audit (Ok r) h = h.2
  given_audit (Err stop) h = tt

  pub given_stop : (r : Result (Vec ℕ × Option (List Leaf)) StepStop) → Gives fault is_text is_audit r → IfErr r (StopsBy fault)
  given_stop (Ok r) h = tt
  given_stop (Err stop) h = h
