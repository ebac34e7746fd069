use Rattle.par_flat.specs.Rooms.{bucket_of_hash}
use Rattle.par_buckets.proofs.Held.{has-none}
use Rattle.par_buckets.proofs.set.SetCombinerCombiner.empty.Goals as goal

pub returns : goal.returns
returns g c = has-none (λ k. bucket_of_hash (g.K.HashKey.hash (g.K.Shown.shown k))) g.K.Shown.shown c.in_ok-new.field-0 c.in_ok-new.ensures
