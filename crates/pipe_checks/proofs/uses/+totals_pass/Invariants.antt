use Rattle.std.proofs.Common.{length}
use Rattle.pipe_checks.proofs.uses.+totals_pass.Given as goal

abbrev pub decreases-totals_pass : goal.decreases-totals_pass
decreases-totals_pass g l = length l.aggs.now
