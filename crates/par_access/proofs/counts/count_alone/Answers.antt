use Rattle.std.proofs.Common.{◌∙◌}
use Rattle.par_access.proofs.Tallies.{count_is}
use Rattle.par_access.proofs.counts.count_alone.Goals as goal

pub returns-clause-answer : goal.returns-clause-answer
returns-clause-answer g c = c.counted.ensures ∙ count_is (g.P.Test.verdict c.args.test.now) (g.S.Splitter.items c.args.source) c.in_ok-sifted.sifted c.in_ok-sifted.ensures.sifted
