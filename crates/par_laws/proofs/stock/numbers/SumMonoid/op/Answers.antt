use Rattle.std.proofs.Common.{w64}
use Rattle.std.proofs.lemmas.Int.{wrapping_add_is}
use Rattle.par_laws.proofs.stock.numbers.SumMonoid.op.Goals as goal

pub returns-clause-joined : goal.returns-clause-joined
returns-clause-joined c = wrapping_add_is w64 c.args.a c.args.b c.ranges.a c.ranges.b
