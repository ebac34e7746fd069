use Rattle.par_task.specs.Audits.{both}
use Rattle.par_pool.proofs.bundle.merged.Goals as goal

pub merge-requires : goal.merge-requires
merge-requires g c = let r = c.requires in let a = rw c.in-Whole-Whole.is-0 at r.6 in let b = rw c.in-Whole-Whole.is-1 at r.7 in (r.0, r.1, r.2, r.3, r.4, r.5, ∣ a.good_is ∣₁, ∣ b.good_is ∣₁)

pub returns-in-Ok-append : goal.returns-in-Ok-append
returns-in-Ok-append g c = λ lo mid hi p q s l r. let a = rw c.in-Whole-Whole.is-0 at l in let b = rw c.in-Whole-Whole.is-1 at r in record {
  good_is = g.met.J.Job.joins c.args.job.now lo mid hi _ _ _ p q s a.good_is b.good_is c.in-Ok.ensures;
  comes = both a.comes b.comes c.in-Ok.ensures c.in-Ok-append.ensures.items;
}
