use Rattle.std.proofs.Common.{◌+◌, ◌*◌, length, arith}
use Rattle.pipe_expr.specs.Reading.{expr_at}
use Rattle.pipe_expr.proofs.parser.expression.Goals as goal

pub returns-clause-gives : goal.returns-clause-gives
unfolding expr_at
returns-clause-gives c = c.at_level.ensures.gives (8 * length c.args.tokens.now + 7) (omega arith)
