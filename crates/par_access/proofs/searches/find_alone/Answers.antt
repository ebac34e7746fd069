use Rattle.std.proofs.Common.{map, sym, subst}
use Rattle.par_access.specs.Found.{IsFound}
use Rattle.par_access.proofs.Seeking.{found_is}
use Rattle.par_access.proofs.searches.find_alone.Goals as goal

pub returns-clause-answer : goal.returns-clause-answer
returns-clause-answer g c =
    let vs = map (g.P.Test.verdict c.args.test.now) (g.S.Splitter.items c.args.source) in
    subst (IsFound vs) (sym c.place.ensures) (found_is vs c.in_ok-sought.sought c.in_ok-sought.ensures.sought)
