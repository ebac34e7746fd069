use Rattle.std.proofs.Common.{arith}
use Rattle.par_trie.specs.Buckets.{bucket_of_hash}
use Rattle.par_buckets.proofs.Held.{has-added}
use Rattle.par_buckets.proofs.Values.{if_ok_then}
use Rattle.par_buckets.proofs.group.GroupCombinerCombiner.add.Goals as goal

pub returns-clause-added : goal.returns-clause-added
returns-clause-added g c = if_ok_then _ c.add.result c.add.ensures.added (λ e x xs has. has-added (λ p. bucket_of_hash (g.K.HashKey.hash (g.K.Shown.shown p.0))) (λ p. (g.K.Shown.shown p.0, g.V.Shown.shown p.1)) c.args.self.now.pairs c.add.new.self xs c.args.item (omega arith) e has)
