use Rattle.std.proofs.Common.{FitsSigned, w64, map, rules, ap, ◌∙◌}
use Rattle.std.proofs.lemmas.Int.{to_z-of_z}
use Rattle.par_lists.specs.Searches.{index_or_minus_one}
use Rattle.par_jobs.specs.Faults.{fault_below, tried}
use Rattle.par_access.proofs.Lasting.{last_index_is}
use Rattle.par_access.proofs.indexes.last_index_where_alone.Goals as goal

pub returns-clause-answer : goal.returns-clause-answer
returns-clause-answer g c =
    let V = g.P.Test.verdict c.args.test.now in
    let fits : FitsSigned w64 c.index_of.result = search rules in
    let xs = g.S.Splitter.items c.args.source in
    let fault = rw c.dup-whole.ensures.items_same at c.fault_before-fault.ensures in
    let found = c.index_of.ensures ∙ ap index_or_minus_one c.index_below-found.ensures in
    rw (to_z-of_z w64 c.index_of.result fits) at c.tried.ensures
    ∙ (ap (λ f. tried f c.index_of.result) fault ∙ (ap (tried (fault_below (map V xs) c.in_ok-above.above)) found ∙ last_index_is V xs c.in_ok-above.above c.in_ok-above.ensures.above))
