-- What is read of a text that reads as a plan.
use Rattle.std.proofs.Common.{refl, ℕ, List}
use Rattle.std.specs.Prelude.{IfOk, IfErr, Result, Ok, Err}
use Rattle.pipe_program.specs.declared.pipeline.Pipeline.{Pipeline}
use Rattle.pipe_program.specs.declared.refusal.ParseStop.{ParseStop}
use Rattle.pipe_program.specs.declared.refusal.ParseStop.TheVariants as stops
use Rattle.pipe_program.specs.Plans.{Plan, plan}
use Rattle.pipe_program.specs.Reading.{IsUnique, Reads, Stops}
use Rattle.pipe_lang.specs.Round.{Gives}

pub gives : ((text : List ℕ) → IsUnique text) → (text : List ℕ) (p : Plan) (r : Result Pipeline ParseStop) → Reads text p → IfOk r (λ q. Reads text (plan q)) → IfErr r (λ e. Stops text e) → Gives p r
gives unique text p (Ok q) h ok err = (unique text).reading (plan q) p ok h
gives unique text p (Err (stops.Refused r)) h ok err = absurd ((unique text).apart p r.line r.kind h err)
gives unique text p (Err stops.Memory) h ok err = refl
