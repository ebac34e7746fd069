use Rattle.std.proofs.Common.{◌+◌, ◌≤◌, arith}
use Rattle.std.specs.Coded.{le_prop}
use mathlib.Core.Logic.{∥∥₁_elim}
use Rattle.par_jobs.proofs.stock.CountingBuilder.join.Goals as goal

pub overflow_add-result : goal.overflow_add-result
overflow_add-result g c =
    let bound : c.args.left + c.args.right ≤ 4194304 = ∥∥₁_elim c.requires le_prop (λ r. omega (arith, r.2, r.3, r.4)) in
    omega (arith, bound)
