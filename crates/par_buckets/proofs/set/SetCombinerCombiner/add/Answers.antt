use Rattle.std.proofs.Common.{◌∙◌, ap}
use Rattle.par_flat.specs.Rooms.{bucket_of_hash}
use Rattle.par_buckets.specs.Held.{added}
use Rattle.par_buckets.proofs.Held.{has-added}
use Rattle.par_buckets.proofs.Sets.{flat_few}
use Rattle.par_buckets.proofs.Values.{if_ok_then}
use Rattle.par_buckets.proofs.set.SetCombinerCombiner.add.Goals as goal

pub add-requires-clause-bucket : goal.add-requires-clause-bucket
add-requires-clause-bucket g c = rw c.flat_bucket-bucket.ensures (flat_few c.hash32.result)

pub returns-clause-added : goal.returns-clause-added
returns-clause-added g c = if_ok_then _ c.add.result c.add.ensures.added (λ e x xs has. has-added (λ k. bucket_of_hash (g.K.HashKey.hash (g.K.Shown.shown k))) g.K.Shown.shown c.args.self.now.keys c.add.new.self xs c.args.item (flat_few (g.K.HashKey.hash (g.K.Shown.shown c.args.item))) (e ∙ ap (λ b. added b c.args.item c.args.self.now.keys) (c.flat_bucket-bucket.ensures ∙ ap bucket_of_hash c.hash32.ensures)) has)
