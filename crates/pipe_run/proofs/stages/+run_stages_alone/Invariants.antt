use Rattle.std.proofs.Common.{length}
use Rattle.pipe_run.proofs.stages.+run_stages_alone.Given as goal

abbrev pub decreases-run_stages_alone : goal.decreases-run_stages_alone
decreases-run_stages_alone g l = length l.rest.steps.now
