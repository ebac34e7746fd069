use Rattle.std.proofs.Common.{take}
use Rattle.std.specs.List.{All}
use Rattle.par_pool.specs.Lists.{StandsAt}
use Rattle.par_pool.proofs.check.all_stand.Given as goal

abbrev pub invariant-loop-leaf : goal.invariant-loop-leaf
invariant-loop-leaf l = All (λ a. StandsAt (λ v. v.items) l.lists a) (take l.leaf-index l.leaves)
