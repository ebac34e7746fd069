use Rattle.std.proofs.Common.{length}
use Rattle.pipe_stages_tests.proofs.tests.+are_shown.Given as goal

abbrev pub decreases-are_shown : goal.decreases-are_shown
decreases-are_shown l = length l.fields.now
