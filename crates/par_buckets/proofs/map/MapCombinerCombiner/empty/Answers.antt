use Rattle.par_trie.specs.Buckets.{bucket_of_hash}
use Rattle.par_buckets.proofs.Held.{has-none}
use Rattle.par_buckets.proofs.map.MapCombinerCombiner.empty.Goals as goal

pub returns : goal.returns
returns g c = has-none (λ p. bucket_of_hash (g.K.HashKey.hash (g.K.Shown.shown p.0))) (λ p. (g.K.Shown.shown p.0, g.V.Shown.shown p.1)) c.in_ok-new.field-0 c.in_ok-new.ensures
