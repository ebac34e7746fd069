use Rattle.par_pool.proofs.Owning.{memory_later, worker_later}
use Rattle.par_pool.proofs.leaves.Run+J+G+M.want.Goals as goal

pub returns-clause-worker : goal.returns-clause-worker
returns-clause-worker g c = worker_later _ _ _ _ _ (memory_later _ _ _ c.abort_memory.ensures.seen.2) c.requires
