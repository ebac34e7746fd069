use Rattle.std.proofs.Common.{arith, ◌≡◌, ◌∙◌, ℕ, ap, subst, refl, length}
use Rattle.std.proofs.lemmas.List.Elements.{All-contains}
use Rattle.par_task.specs.Marking.{marks_of}
use Rattle.par_task.specs.Audits.{IsAudit, threshold_of}
use Rattle.par_pool.specs.Lists.{IsList}
use Rattle.par_pool.proofs.Tiling.{audit_of, by_more}
use Rattle.par_pool.proofs.run.run_job.Goals as goal

pub returns-then-workers-lt2-clause-audit : goal.returns-then-workers-lt2-clause-audit
returns-then-workers-lt2-clause-audit g c = by_more _ _ _ _ _ c.run_alone.result c.requires.workers.0 c.run_alone.ensures.audit c.run_alone.ensures.chain c.run_alone.ensures.tested

pub returns-then-branch-clause-audit : goal.returns-then-branch-clause-audit
returns-then-branch-clause-audit g c =
    let kind = g.J.Job.kind in
    let marks = marks_of g.J.Job.kind (g.J.Job.verdicts c.args.job.now) in
    let source = g.J.Job.source c.args.job.now in
    let level = c.args.plan.now.level in
    let leaves = c.in-Whole.leaves.items in
    let lists = c.in_ok-bundle.lists.items in
    let told = rw c.if-branch.true at c.in_ok-is_tiling.ensures in
    let tiling = rw (c.deref.ensures.value, c.deref-2.ensures.value) at told refl in
    let same = c.work_of-work.ensures.job.0 in
    let whole = rw (same, c.in-Whole.is) at c.in_ok-bundle.ensures.bundle in
    let own = rw same at c.in_ok-bundle.ensures.lists in
    let count : c.remaining-n.result ≡ length source = c.remaining-n.ensures ∙ ap length c.requires.source.1 in
    let most : c.threshold-t.result ≡ threshold_of (length source) level = c.threshold-t.ensures ∙ ap (λ (v : ℕ). threshold_of v level) count in
    let audit = audit_of (λ v. v.items) lists kind marks (λ v k. All-contains (λ l. IsList kind marks l.items) lists v own k) _ _ _ leaves tiling _ _ _ whole.comes in
    let many : c.args.plan.now.workers ≡ 1 → ⊥ = λ e. omega (arith, e, c.if-workers-lt2.false, c.crew-workers.ensures) in
    rw c.of.ensures (record {
      audit = subst (λ (x : ℕ). IsAudit kind marks x (threshold_of (length source) level) c.args.plan.now.workers leaves) count
          (subst (λ (y : ℕ). IsAudit kind marks c.remaining-n.result y c.args.plan.now.workers leaves) most audit);
      chain = λ e. absurd (many e);
      tested = λ e. absurd (many e);
    })

pub returns-clause-audit : goal.returns-clause-audit
returns-clause-audit g c = by_more _ _ _ _ _ c.run_alone-2.result c.requires.workers.0 c.run_alone-2.ensures.audit c.run_alone-2.ensures.chain c.run_alone-2.ensures.tested
