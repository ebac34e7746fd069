use Rattle.std.proofs.Common.{◌∙◌, min, sym, ap, length}
use Rattle.par_task.specs.Marking.{halts}
use Rattle.par_jobs_tests.proofs.Cutting.{marked}
use Rattle.par_jobs_tests.proofs.tests.is_marked_at.Goals as goal

pub returns-in-Some : goal.returns-in-Some
returns-in-Some g c e =
    let source = g.S.Splitter.items c.args.source.now in
    let joined = sym c.dup.ensures.items_same ∙ c.cut_at-rest.ensures.parts.joined in
    let size = c.cut_at-rest.ensures.count ∙ ap (λ v. min c.args.at (length v)) c.dup.ensures.items_same in
    marked (g.P.Test.verdict c.args.test.now) source _ _ c.args.at _ _ joined size c.in-Some.ensures.first ∙ (ap halts (sym c.test.ensures) ∙ (sym c.is_halt.ensures ∙ e))
