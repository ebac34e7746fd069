use Rattle.std.proofs.Common.{refl}
use Rattle.par_laws.specs.Hash.{mixed}
use Rattle.par_laws.proofs.hash.mix.Goals as goal

pub returns : goal.returns
unfolding mixed
returns c = refl
