use Rattle.std.proofs.Common.{◌∙◌}
use Rattle.par_access.proofs.Seeking.{forall_is}
use Rattle.par_access.proofs.searches.forall_alone.Goals as goal

pub returns-clause-answer : goal.returns-clause-answer
returns-clause-answer g c = c.answered.ensures ∙ forall_is (g.P.Test.verdict c.args.test.now) (g.S.Splitter.items c.args.source) c.in_ok-sought.sought c.in_ok-sought.ensures.sought
