-- An answer, or the fault that stands in its place.
use Rattle.std.proofs.Common.{◌≡◌, Option, Some, None, sym, subst}
use Rattle.par_laws.specs.declared.tried.FaultAt.{FaultAt}
use Rattle.par_laws.specs.declared.tried.Tried.TheVariants as tried
use Rattle.par_jobs.specs.Faults.{IsTried}

-- an answer, where nothing stands in its place
pub tried_got : {T : Type 0} (first : Option FaultAt) (holds : T → Type 0) (answer : T) → first ≡ None → holds answer → IsTried first holds (tried.Got answer)
tried_got first holds answer none h = subst (λ f. IsTried f holds (tried.Got answer)) (sym none) h
