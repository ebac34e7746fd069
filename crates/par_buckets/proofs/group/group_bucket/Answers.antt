use Rattle.std.proofs.Common.{rules, ◌≡◌, ◌∙◌, ◌++◌, ◌∷◌, ◌≤◌, List, map, [], ap, sym, arith, length}
use Rattle.std.specs.Ordering.{eq_by_cmp, is_eq}
use Rattle.par_index.specs.Entries.{groups_of}
use Rattle.par_combiner.specs.Chunks.{items_of}
use Rattle.par_trie.specs.Buckets.{bucket_of_hash}
use Rattle.par_buckets.specs.Values.{push_to_groups}
use Rattle.par_buckets.proofs.Filling.{chunk_last, chunk_more, chunk_room, few_keys, is_groups_of_pairs, keys_of_groups, keys-copied, push_to_groups-append, same_length}
use Rattle.par_buckets.proofs.group.group_bucket.Goals as goal

pub loop-chunk-init : goal.loop-chunk-init
loop-chunk-init g c = record {
  steps = search rules;
  ends = search rules;
  filled =
      let seen : g.row.K.Denot × g.row.V.Denot → g.row.K-Value.Denot × g.row.V-Value.Denot = λ p. (g.K.Shown.shown p.0, g.V.Shown.shown p.1) in
      ([], ap groups_of c.new-trie.ensures, ap (λ chunks. map seen (items_of chunks)) c.into_iter-chunk-iterator.ensures.into_iter_gives.0);
}

pub push_pairs-requires : goal.push_pairs-requires
push_pairs-requires g c =
    let seen : g.row.K.Denot × g.row.V.Denot → g.row.K-Value.Denot × g.row.V-Value.Denot = λ p. (g.K.Shown.shown p.0, g.V.Shown.shown p.1) in
    let ps : List (g.row.K.Denot × g.row.V.Denot) = c.loop-chunk.invariant.filled.0 in
    let next : map seen ps ++ map seen (items_of (c.in-Some.chunk.now ∷ c.next.new.self)) ≡ map seen (items_of c.args.pairs.now) = ap (λ chunks. map seen ps ++ map seen (items_of chunks)) (sym c.in-Some.ensures.steps) ∙ c.loop-chunk.invariant.filled.2 in
    let few : length c.loop-chunk.trie ≤ length ps = few_keys g.K.PartialEq.eq c.loop-chunk.trie ps (keys_of_groups g.K.PartialEq.eq c.loop-chunk.trie ps c.loop-chunk.invariant.filled.1) in
    omega (arith, c.requires.room, few, chunk_room seen ps c.in_ok-copy.field-0.items c.in-Some.chunk.now c.next.new.self c.args.pairs.now next c.in_ok-copy.ensures)

pub loop-chunk-preserved : goal.loop-chunk-preserved
loop-chunk-preserved g c = record {
  steps = search rules;
  ends = search rules;
  filled =
      let seen : g.row.K.Denot × g.row.V.Denot → g.row.K-Value.Denot × g.row.V-Value.Denot = λ p. (g.K.Shown.shown p.0, g.V.Shown.shown p.1) in
      let ps : List (g.row.K.Denot × g.row.V.Denot) = c.loop-chunk.invariant.filled.0 in
      let next : map seen ps ++ map seen (items_of (c.in-Some.chunk.now ∷ c.next.new.self)) ≡ map seen (items_of c.args.pairs.now) = ap (λ chunks. map seen ps ++ map seen (items_of chunks)) (sym c.in-Some.ensures.steps) ∙ c.loop-chunk.invariant.filled.2 in (
        ps ++ c.in_ok-copy.field-0.items,
        c.in_ok-push_pairs.ensures.pairs ∙ (ap (λ gs. push_to_groups g.K.PartialEq.eq gs c.in_ok-copy.field-0.items) c.loop-chunk.invariant.filled.1 ∙ sym (push_to_groups-append g.K.PartialEq.eq [] ps c.in_ok-copy.field-0.items)),
        chunk_more seen ps c.in_ok-copy.field-0.items c.in-Some.chunk.now c.next.new.self c.args.pairs.now next c.in_ok-copy.ensures,
      );
}

pub returns-clause-groups : goal.returns-clause-groups
returns-clause-groups g c =
    let seen : g.row.K.Denot × g.row.V.Denot → g.row.K-Value.Denot × g.row.V-Value.Denot = λ p. (g.K.Shown.shown p.0, g.V.Shown.shown p.1) in
    let ps : List (g.row.K.Denot × g.row.V.Denot) = c.loop-chunk.invariant.filled.0 in
    let none : c.loop-chunk.chunk-iterator ≡ [] = search rules in
    let all : map seen ps ≡ map seen (items_of c.args.pairs.now) = chunk_last seen ps c.loop-chunk.chunk-iterator c.args.pairs.now none c.loop-chunk.invariant.filled.2 in
    is_groups_of_pairs g.K.PartialEq.eq g.met.K.Eq.laws (eq_by_cmp g.K.HashKey.order) g.K.Shown.shown g.V.Shown.shown (λ x y. g.met.K.Ord.matches_eq x y ∙ ap is_eq (g.met.K.HashKey.ordered x y)) ps (map seen (items_of c.args.pairs.now)) all c.loop-chunk.trie c.loop-chunk.invariant.filled.1

pub returns-clause-bucket : goal.returns-clause-bucket
returns-clause-bucket g c =
    let seen : g.row.K.Denot × g.row.V.Denot → g.row.K-Value.Denot × g.row.V-Value.Denot = λ p. (g.K.Shown.shown p.0, g.V.Shown.shown p.1) in
    let ps : List (g.row.K.Denot × g.row.V.Denot) = c.loop-chunk.invariant.filled.0 in
    let none : c.loop-chunk.chunk-iterator ≡ [] = search rules in
    let all : map seen ps ≡ map seen (items_of c.args.pairs.now) = chunk_last seen ps c.loop-chunk.chunk-iterator c.args.pairs.now none c.loop-chunk.invariant.filled.2 in
    keys-copied g.K.Shown.shown g.V.Shown.shown g.K.PartialEq.eq (λ (k : g.row.K-Value.Denot). bucket_of_hash (g.K.HashKey.hash k) ≡ c.args._bucket) c.loop-chunk.trie ps (items_of c.args.pairs.now) (keys_of_groups g.K.PartialEq.eq c.loop-chunk.trie ps c.loop-chunk.invariant.filled.1) all c.requires.keys

pub returns-clause-count : goal.returns-clause-count
returns-clause-count g c =
    let seen : g.row.K.Denot × g.row.V.Denot → g.row.K-Value.Denot × g.row.V-Value.Denot = λ p. (g.K.Shown.shown p.0, g.V.Shown.shown p.1) in
    let ps : List (g.row.K.Denot × g.row.V.Denot) = c.loop-chunk.invariant.filled.0 in
    let none : c.loop-chunk.chunk-iterator ≡ [] = search rules in
    let all : map seen ps ≡ map seen (items_of c.args.pairs.now) = chunk_last seen ps c.loop-chunk.chunk-iterator c.args.pairs.now none c.loop-chunk.invariant.filled.2 in
    let few : length c.loop-chunk.trie ≤ length ps = few_keys g.K.PartialEq.eq c.loop-chunk.trie ps (keys_of_groups g.K.PartialEq.eq c.loop-chunk.trie ps c.loop-chunk.invariant.filled.1) in
    omega (arith, few, same_length seen ps (items_of c.args.pairs.now) all)
