use Rattle.std.proofs.Common.{◌-◌, length}
use Rattle.pipe_text.specs.Token.{views}
use Rattle.pipe_text.proofs.Lexing.{Reached}
use Rattle.pipe_text.proofs.line.tokens.Given as goal

abbrev pub invariant-loop-at : goal.invariant-loop-at
invariant-loop-at l = Reached l.line l.at l.count (views l.kept.items)

abbrev pub decreases-loop-at : goal.decreases-loop-at
decreases-loop-at l = length l.line - l.at
