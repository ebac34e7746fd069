use Rattle.std.proofs.Common.{arith}
use Rattle.par_jobs.proofs.low.is_past.Goals as goal

pub returns-clause-past : goal.returns-clause-past
returns-clause-past c e = ((omega (arith, c.requires.on), c.if-at-lo-ne0.false), c.is_lowered.ensures.past e)
