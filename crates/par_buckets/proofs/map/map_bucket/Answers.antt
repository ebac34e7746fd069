use Rattle.std.proofs.Common.{rules, ◌≡◌, ◌∙◌, ◌++◌, ◌∷◌, ◌≤◌, List, map, [], ap, sym, arith, length}
use Rattle.std.specs.Ordering.{eq_by_cmp, is_eq}
use Rattle.std.specs.Map.{keys_of}
use Rattle.par_combiner.specs.Chunks.{items_of}
use Rattle.par_trie.specs.Buckets.{bucket_of_hash}
use Rattle.par_buckets.specs.Values.{insert_entries}
use Rattle.par_buckets.proofs.Filling.{chunk_last, chunk_more, chunk_room, few_keys, insert_entries-append, is_map_of_pairs, keys_of-insert_entries, keys-copied, same_length}
use Rattle.par_buckets.proofs.map.map_bucket.Goals as goal

pub loop-chunk-init : goal.loop-chunk-init
loop-chunk-init g c = record {
  steps = search rules;
  ends = search rules;
  filled =
      let seen : g.row.K.Denot × g.row.V.Denot → g.row.K-Value.Denot × g.row.V-Value.Denot = λ p. (g.K.Shown.shown p.0, g.V.Shown.shown p.1) in
      ([], c.new-trie.ensures, ap (λ chunks. map seen (items_of chunks)) c.into_iter-chunk-iterator.ensures.into_iter_gives.0);
}

pub insert_pairs-requires : goal.insert_pairs-requires
insert_pairs-requires g c =
    let seen : g.row.K.Denot × g.row.V.Denot → g.row.K-Value.Denot × g.row.V-Value.Denot = λ p. (g.K.Shown.shown p.0, g.V.Shown.shown p.1) in
    let ps : List (g.row.K.Denot × g.row.V.Denot) = c.loop-chunk.invariant.filled.0 in
    let next : map seen ps ++ map seen (items_of (c.in-Some.chunk.now ∷ c.next.new.self)) ≡ map seen (items_of c.args.pairs.now) = ap (λ chunks. map seen ps ++ map seen (items_of chunks)) (sym c.in-Some.ensures.steps) ∙ c.loop-chunk.invariant.filled.2 in
    let few : length c.loop-chunk.trie ≤ length ps = few_keys g.K.PartialEq.eq c.loop-chunk.trie ps (ap keys_of c.loop-chunk.invariant.filled.1 ∙ keys_of-insert_entries g.K.PartialEq.eq [] ps) in
    omega (arith, c.requires.room, few, chunk_room seen ps c.in_ok-copy.field-0.items c.in-Some.chunk.now c.next.new.self c.args.pairs.now next c.in_ok-copy.ensures)

pub loop-chunk-preserved : goal.loop-chunk-preserved
loop-chunk-preserved g c = record {
  steps = search rules;
  ends = search rules;
  filled =
      let seen : g.row.K.Denot × g.row.V.Denot → g.row.K-Value.Denot × g.row.V-Value.Denot = λ p. (g.K.Shown.shown p.0, g.V.Shown.shown p.1) in
      let ps : List (g.row.K.Denot × g.row.V.Denot) = c.loop-chunk.invariant.filled.0 in
      let next : map seen ps ++ map seen (items_of (c.in-Some.chunk.now ∷ c.next.new.self)) ≡ map seen (items_of c.args.pairs.now) = ap (λ chunks. map seen ps ++ map seen (items_of chunks)) (sym c.in-Some.ensures.steps) ∙ c.loop-chunk.invariant.filled.2 in (
        ps ++ c.in_ok-copy.field-0.items,
        c.in_ok-insert_pairs.ensures.pairs ∙ (ap (λ es. insert_entries g.K.PartialEq.eq es c.in_ok-copy.field-0.items) c.loop-chunk.invariant.filled.1 ∙ sym (insert_entries-append g.K.PartialEq.eq [] ps c.in_ok-copy.field-0.items)),
        chunk_more seen ps c.in_ok-copy.field-0.items c.in-Some.chunk.now c.next.new.self c.args.pairs.now next c.in_ok-copy.ensures,
      );
}

pub returns-clause-map : goal.returns-clause-map
returns-clause-map g c =
    let seen : g.row.K.Denot × g.row.V.Denot → g.row.K-Value.Denot × g.row.V-Value.Denot = λ p. (g.K.Shown.shown p.0, g.V.Shown.shown p.1) in
    let ps : List (g.row.K.Denot × g.row.V.Denot) = c.loop-chunk.invariant.filled.0 in
    let none : c.loop-chunk.chunk-iterator ≡ [] = search rules in
    let all : map seen ps ≡ map seen (items_of c.args.pairs.now) = chunk_last seen ps c.loop-chunk.chunk-iterator c.args.pairs.now none c.loop-chunk.invariant.filled.2 in
    is_map_of_pairs g.K.PartialEq.eq g.met.K.Eq.laws (eq_by_cmp g.K.HashKey.order) g.K.Shown.shown g.V.Shown.shown (λ x y. g.met.K.Ord.matches_eq x y ∙ ap is_eq (g.met.K.HashKey.ordered x y)) ps (map seen (items_of c.args.pairs.now)) all c.loop-chunk.trie c.loop-chunk.invariant.filled.1

pub returns-clause-bucket : goal.returns-clause-bucket
returns-clause-bucket g c =
    let seen : g.row.K.Denot × g.row.V.Denot → g.row.K-Value.Denot × g.row.V-Value.Denot = λ p. (g.K.Shown.shown p.0, g.V.Shown.shown p.1) in
    let ps : List (g.row.K.Denot × g.row.V.Denot) = c.loop-chunk.invariant.filled.0 in
    let none : c.loop-chunk.chunk-iterator ≡ [] = search rules in
    let all : map seen ps ≡ map seen (items_of c.args.pairs.now) = chunk_last seen ps c.loop-chunk.chunk-iterator c.args.pairs.now none c.loop-chunk.invariant.filled.2 in
    keys-copied g.K.Shown.shown g.V.Shown.shown g.K.PartialEq.eq (λ (k : g.row.K-Value.Denot). bucket_of_hash (g.K.HashKey.hash k) ≡ c.args._bucket) c.loop-chunk.trie ps (items_of c.args.pairs.now) (ap keys_of c.loop-chunk.invariant.filled.1 ∙ keys_of-insert_entries g.K.PartialEq.eq [] ps) all c.requires.keys

pub returns-clause-count : goal.returns-clause-count
returns-clause-count g c =
    let seen : g.row.K.Denot × g.row.V.Denot → g.row.K-Value.Denot × g.row.V-Value.Denot = λ p. (g.K.Shown.shown p.0, g.V.Shown.shown p.1) in
    let ps : List (g.row.K.Denot × g.row.V.Denot) = c.loop-chunk.invariant.filled.0 in
    let none : c.loop-chunk.chunk-iterator ≡ [] = search rules in
    let all : map seen ps ≡ map seen (items_of c.args.pairs.now) = chunk_last seen ps c.loop-chunk.chunk-iterator c.args.pairs.now none c.loop-chunk.invariant.filled.2 in
    let few : length c.loop-chunk.trie ≤ length ps = few_keys g.K.PartialEq.eq c.loop-chunk.trie ps (ap keys_of c.loop-chunk.invariant.filled.1 ∙ keys_of-insert_entries g.K.PartialEq.eq [] ps) in
    omega (arith, few, same_length seen ps (items_of c.args.pairs.now) all)
