use Rattle.std.proofs.Common.{arith}
use mathlib.Core.Logic.{∥∥₁_elim, ∥∥₁_map, ∥∥₁_prop}
use Rattle.par_task.specs.Marking.{passes}
use Rattle.par_task.specs.Parts.{between}
use Rattle.par_jobs.specs.Steps.{fails}
use Rattle.par_jobs.proofs.Fronts.{length-between}
use Rattle.par_jobs.proofs.Faults.{filter_few}
use Rattle.par_jobs.proofs.sift.SiftJobJob.merge.Goals as goal

pub join-requires : goal.join-requires
join-requires g c =
    let source = g.S.Splitter.items c.args.self.now.marked.split in
    ∥∥₁_elim (rw c.in-Got-Got.is-0 at c.requires.6) ∥∥₁_prop
    (λ a. ∥∥₁_map (rw c.in-Got-Got.is-1 at c.requires.7)
    (λ b. (_, _, omega (arith, filter_few (λ x. passes (g.P.Test.verdict c.args.self.now.marked.inner x)) (between source c.requires.0 c.requires.1), filter_few (λ x. passes (g.P.Test.verdict c.args.self.now.marked.inner x)) (between source c.requires.1 c.requires.2), length-between source c.requires.0 c.requires.1, length-between source c.requires.1 c.requires.2, c.requires.3, c.requires.4, c.requires.5, c.args.self.now.small), a.passed, b.passed)))

pub join-requires-in-Got-Got : goal.join-requires-in-Got-Got
join-requires-in-Got-Got g c =
    let source = g.S.Splitter.items c.args.self.now.marked.split in
    ∥∥₁_elim (rw c.in-Got-Got.is-0 at c.requires.6) ∥∥₁_prop
    (λ a. ∥∥₁_map (rw c.in-Got-Got.is-1 at c.requires.7)
    (λ b. (_, _, omega (arith, filter_few (λ x. fails (g.P.Test.verdict c.args.self.now.marked.inner x)) (between source c.requires.0 c.requires.1), filter_few (λ x. fails (g.P.Test.verdict c.args.self.now.marked.inner x)) (between source c.requires.1 c.requires.2), length-between source c.requires.0 c.requires.1, length-between source c.requires.1 c.requires.2, c.requires.3, c.requires.4, c.requires.5, c.args.self.now.small), a.failed, b.failed)))
