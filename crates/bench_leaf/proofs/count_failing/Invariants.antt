use Rattle.std.proofs.Common.{length}
use Rattle.bench_leaf.proofs.count_failing.Given as goal

abbrev pub decreases-loop-item : goal.decreases-loop-item
decreases-loop-item g l = length (g.S.Splitter.items l.input)
