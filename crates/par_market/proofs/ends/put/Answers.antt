use Rattle.par_market.proofs.Steps.{pushes}
use Rattle.par_market.proofs.ends.put.Goals as goal

pub push_as-requires-clause-pushes : goal.push_as-requires-clause-pushes
push_as-requires-clause-pushes c = pushes _ _ _ c.requires.owner c.requires.place
