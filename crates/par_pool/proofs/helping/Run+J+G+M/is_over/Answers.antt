use Rattle.par_pool.proofs.Owning.{looked_resting}
use Rattle.par_pool.proofs.helping.Run+J+G+M.is_over.Goals as goal

pub returns-then-eq-2 : goal.returns-then-eq-2
returns-then-eq-2 g c = looked_resting c.state-state.ensures.read.2 c.requires

pub returns-else-eq-2 : goal.returns-else-eq-2
returns-else-eq-2 g c = looked_resting c.state-state.ensures.read.2 c.requires
