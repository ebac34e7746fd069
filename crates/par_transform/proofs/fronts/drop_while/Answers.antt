use Rattle.std.proofs.Common.{◌∙◌, ap, sym, subst, drop, map}
use Rattle.par_laws.specs.Verdict.{contrary}
use Rattle.par_lists.specs.Cuts as lists
use Rattle.par_task.specs.Marking.{low_flag, passes}
use Rattle.par_jobs.specs.Faults.{fault_at, fault_of}
use Rattle.par_transform.proofs.Faults.{tried_got}
use Rattle.par_jobs.specs.Contrary.{contrary_stop}
use Rattle.par_transform.proofs.fronts.drop_while.Goals as goal

pub returns-in_ok-result-in-None-clause-answer : goal.returns-in_ok-result-in-None-clause-answer
returns-in_ok-result-in-None-clause-answer g c =
    let verdict = g.P.Test.verdict c.args.test.now in
    let items = g.S.Splitter.items c.args.source in
    let made = g.F.Mapper.mapped c.args.of.now in
    let end = c.in_ok-parts.parts.end in
    tried_got (fault_of low_flag (map (λ x. contrary (verdict x)) items)) (λ out. g.C.Combiner.stands out (map made (lists.drop_while (λ x. passes (verdict x)) items))) c.in_ok-result-in-None.field-0
    (ap (fault_at (map (λ x. contrary (verdict x)) items)) (sym c.in_ok-parts.ensures.end)
    ∙ (ap (λ xs. fault_at (map (λ x. contrary (verdict x)) xs) end) (sym c.dup-again.ensures.items_same)
    ∙ (sym c.fault_here.ensures ∙ c.in-None.is)))
    (subst (λ n. g.C.Combiner.stands c.in_ok-result-in-None.field-0 (map made (drop n items))) (contrary_stop verdict items)
    (c.in_ok-result-in-None.ensures _ c.in_ok-parts.ensures.suffix))
