use Rattle.std.proofs.Common.{length}
use Rattle.language_tests.proofs.text.sizes.Given as goal

abbrev pub decreases-loop-line : goal.decreases-loop-line
decreases-loop-line l = length l.rest
