use Rattle.std.proofs.Common.{length}
use Rattle.pipe_checks.specs.Places.{spot}
use Rattle.pipe_program.specs.Parts.{parts}
use Rattle.pipe_program.proofs.Walk.{Bears}
use Rattle.pipe_program.proofs.reading.parse.Given as goal

abbrev pub invariant-loop-line : goal.invariant-loop-line
invariant-loop-line l = Bears l.text (spot l.place) l.at l.rest (parts l.draft)

abbrev pub decreases-loop-line : goal.decreases-loop-line
decreases-loop-line l = length l.rest
