use Rattle.std.proofs.Common.{take}
use Rattle.par_task.specs.Audits.{Adjoins}
use Rattle.par_pool.proofs.check.adjoin.Given as goal

abbrev pub invariant-loop-leaf : goal.invariant-loop-leaf
invariant-loop-leaf l = Adjoins 0 l.at (take l.leaf-index l.leaves)
