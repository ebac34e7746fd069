use Rattle.std.proofs.Common.{◌∙◌, sym}
use Rattle.par_pool.proofs.check.is_told.Goals as goal

pub returns : goal.returns
returns c = λ t. let b = c.in-Some-get.ensures.lookup in let e = c.is_same.ensures t in (_, b.3.0, sym (b.3.1 c.args.leaf.now) ∙ e)
