use Rattle.std.proofs.Common.{◌+◌, ◌*◌, length}
use Rattle.pipe_expr.proofs.parser.+parser.Given as goal

abbrev pub decreases-at_level : goal.decreases-at_level
decreases-at_level l = 16 * length l.tokens.now + 2 * l.level + 2

abbrev pub decreases-go_on : goal.decreases-go_on
decreases-go_on l = 16 * length l.tokens.now

abbrev pub decreases-operand : goal.decreases-operand
decreases-operand l = 16 * length l.tokens.now

abbrev pub decreases-negation : goal.decreases-negation
decreases-negation l = 16 * length l.tokens.now + 9
