use Rattle.std.proofs.Common.{arith}
use mathlib.Core.Logic.{∥∥₁_elim, ∥∥₁_map, ∥∥₁_prop}
use Rattle.par_jobs.proofs.Fronts.{length-between}
use Rattle.par_jobs.proofs.gather.GatherJobJob.merge.Goals as goal

pub join-requires : goal.join-requires
join-requires g c =
    let source = g.S.Splitter.items c.args.self.now.marked.split in
    ∥∥₁_elim c.requires.6 ∥∥₁_prop
    (λ a. ∥∥₁_map c.requires.7
    (λ b. (_, _, omega (arith, length-between source c.requires.0 c.requires.1, length-between source c.requires.1 c.requires.2, c.requires.3, c.requires.4, c.requires.5, c.args.self.now.small), a, b)))
