-- Round: what is read of a text that reads as a plan.
use Rattle.std.specs.Prelude.{◌≡◌, Result, Ok, Err}
use Rattle.pipe_program.specs.declared.pipeline.Pipeline.{Pipeline}
use Rattle.pipe_program.specs.declared.refusal.ParseStop.{ParseStop}
use Rattle.pipe_program.specs.declared.refusal.ParseStop.TheVariants as stops
use Rattle.pipe_program.specs.Plans.{Plan, plan}

-- the plan was read, or memory was wanting
abbrev pub Gives : Plan → Result Pipeline ParseStop → Type 0
Gives p (Ok q) = plan q ≡ p
Gives p (Err e) = e ≡ stops.Memory
