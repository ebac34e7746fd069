use Rattle.std.proofs.Common.{ap, w64, Ok}
use Rattle.std.proofs.lemmas.Int.{wrapping_add_is, wrapping_sub_is}
use Rattle.pipe_eval.proofs.amount.Arithmetic.apply.Goals as goal

pub returns-in-Plus : goal.returns-in-Plus
returns-in-Plus c = rw c.in-Plus.is (ap Ok (wrapping_add_is w64 c.args.a c.args.b c.ranges.a c.ranges.b))

pub returns-in-Minus : goal.returns-in-Minus
returns-in-Minus c = rw c.in-Minus.is (ap Ok (wrapping_sub_is w64 c.args.a c.args.b c.ranges.a c.ranges.b))
