use Rattle.std.proofs.Common.{length}
use Rattle.pipe_checks.proofs.uses.+fields_pass.Given as goal

abbrev pub decreases-fields_pass : goal.decreases-fields_pass
decreases-fields_pass g l = length l.fields.now
