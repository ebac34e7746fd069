use Rattle.std.proofs.Common.{length}
use Rattle.pipe_checks.proofs.kinds.+has.Given as goal

abbrev pub decreases-has : goal.decreases-has
decreases-has l = length l.columns.now
