use Rattle.std.proofs.Common.{length}
use Rattle.collections_tests.proofs.splitter.listed.Given as goal

abbrev pub decreases-loop-item : goal.decreases-loop-item
decreases-loop-item g l = length (g.S.Splitter.items l.rest)
