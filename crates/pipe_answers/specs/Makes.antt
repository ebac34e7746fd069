-- What is made of the rows by an expression that may fault.
use Rattle.std.specs.Prelude.{List, [], ◌∷◌, map, Option}
use Rattle.par_laws.specs.declared.guard.Made.{Made}
use Rattle.par_laws.specs.declared.guard.Made.TheVariants as made
use Rattle.par_laws.specs.declared.test.Verdict.{Verdict}
use Rattle.par_laws.specs.declared.test.Verdict.TheVariants as verdicts
use Rattle.par_laws.specs.declared.tried.FaultAt.{FaultAt}
use Rattle.par_jobs.specs.Faults.{least_fault}

-- a value passes, and a fault is one
abbrev pub made_verdict : {X : Type 0} → Made X → Verdict
made_verdict (made.Value x) = verdicts.Pass
made_verdict (made.Fault kind) = verdicts.Fault kind

-- the fault with the least index
abbrev pub made_fault : {X : Type 0} → List (Made X) → Option FaultAt
made_fault ms = least_fault (map made_verdict ms)

-- the values, in order
abbrev pub made_values : {X : Type 0} → List (Made X) → List X
made_values [] = []
made_values (made.Value x ∷ ms) = x ∷ made_values ms
made_values (made.Fault kind ∷ ms) = made_values ms
