use Rattle.std.proofs.Common.{length, map}
use Rattle.pipe_checks.specs.Places.{spot}
use Rattle.pipe_program.specs.Reading.{numbered}
use Rattle.pipe_program.proofs.Numbering.{IsBehind}
use Rattle.pipe_program.proofs.numbered.numbered_lines.Given as goal

abbrev pub invariant-loop-line : goal.invariant-loop-line
invariant-loop-line l = IsBehind l.text (spot l.place) l.at l.rest (map numbered l.all.items)

abbrev pub decreases-loop-line : goal.decreases-loop-line
decreases-loop-line l = length l.rest
