use Rattle.par_pool.proofs.Tiling.{IsFilling}
use Rattle.par_pool.proofs.check.places.Given as goal

abbrev pub invariant-loop-place : goal.invariant-loop-place
invariant-loop-place l = IsFilling l.table.items l.leaves l.place
