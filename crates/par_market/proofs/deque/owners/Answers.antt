use Rattle.par_market.proofs.Steps.{begins}
use Rattle.par_market.proofs.deque.owners.Goals as goal

pub fifo_as-requires : goal.fifo_as-requires
fifo_as-requires c = begins
