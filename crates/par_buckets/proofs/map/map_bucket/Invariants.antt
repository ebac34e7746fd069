use Rattle.std.proofs.Common.{◌≡◌, ◌++◌, List, map, []}
use Rattle.par_combiner.specs.Chunks.{items_of}
use Rattle.par_buckets.specs.Values.{insert_entries}
use Rattle.par_buckets.proofs.map.map_bucket.Given as goal

-- pairs that are seen as those of the chunks so far were inserted
abbrev pub invariant-loop-chunk : goal.invariant-loop-chunk
invariant-loop-chunk g l = record {
  steps : (goal.iterator-loop-chunk g).can_next l.chunk-iterator;
  ends : (goal.iterator-loop-chunk g).is_finite l.chunk-iterator;
  filled : (ps : List (g.row.K.Denot × g.row.V.Denot)) × (l.trie ≡ insert_entries g.K.PartialEq.eq [] ps) × (map {B = g.row.K-Value.Denot × g.row.V-Value.Denot} (λ p. (g.K.Shown.shown p.0, g.V.Shown.shown p.1)) ps ++ map (λ p. (g.K.Shown.shown p.0, g.V.Shown.shown p.1)) (items_of l.chunk-iterator) ≡ map (λ p. (g.K.Shown.shown p.0, g.V.Shown.shown p.1)) (items_of l.fn.pairs));
}
