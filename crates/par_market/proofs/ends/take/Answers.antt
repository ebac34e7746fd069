use Rattle.std.proofs.Common.{◌∙◌, ap, refl, subst}
use Rattle.par_market.specs.declared.rule.Account.{Account}
use Rattle.par_market.specs.Deques.{Above, with_found}
use Rattle.par_market.proofs.Steps.{takes}
use Rattle.par_market.proofs.ends.take.Goals as goal

pub steal_as-requires-clause-takes : goal.steal_as-requires-clause-takes
steal_as-requires-clause-takes g c = takes _ _

pub returns-in-Success-clause-found : goal.returns-in-Success-clause-found
returns-in-Success-clause-found g c =
    let told = c.in-Success.ensures.rule in
    let same = c.loop.invariant.2 in
    let entry = c.in-Success.entry in
    (subst (λ (v : Account). Above v.found entry.place) same (told.1 0 entry refl), told.0 ∙ ap (λ (v : Account). with_found v entry) same)
