use Rattle.std.proofs.Common.{length}
use Rattle.pipe_run.proofs.stages.+run_picks_alone.Given as goal

abbrev pub decreases-run_picks_alone : goal.decreases-run_picks_alone
decreases-run_picks_alone g l = length l.rest.steps.now
