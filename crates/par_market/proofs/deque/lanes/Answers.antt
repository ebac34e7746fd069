use Rattle.par_market.proofs.Steps.{admits}
use Rattle.par_market.proofs.deque.lanes.Goals as goal

pub pass-requires : goal.pass-requires
pass-requires c = admits
