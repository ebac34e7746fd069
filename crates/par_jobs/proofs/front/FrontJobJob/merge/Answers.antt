use Rattle.std.proofs.Common.{arith}
use mathlib.Core.Logic.{∥∥₁_elim, ∥∥₁_map, ∥∥₁_prop}
use Rattle.par_jobs.proofs.front.FrontJobJob.merge.Goals as goal

pub join-requires : goal.join-requires
join-requires g c =
    ∥∥₁_elim c.requires.6 ∥∥₁_prop
    (λ a. ∥∥₁_map c.requires.7
    (λ b. (a.taken, b.taken, omega (arith, a.few, b.few, c.requires.5, c.args.self.now.small), a.built_is, b.built_is)))
