use Rattle.std.proofs.Common.{take}
use Rattle.std.specs.List.{All, Contains}
use Rattle.par_task.specs.declared.audit.Leaf.{Leaf}
use Rattle.par_pool.proofs.check.all_told.Given as goal

abbrev pub invariant-loop-list : goal.invariant-loop-list
invariant-loop-list l = All (λ v. (a : Leaf) → Contains v.items a → Contains l.leaves a) (take l.list-index l.lists)
