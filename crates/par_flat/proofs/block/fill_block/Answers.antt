use Rattle.std.proofs.Common.{rules, ◌≡◌, ◌∙◌, ◌+◌, ◌≤◌, ap, sym, subst, ◌++◌, ◌∷◌, [], append_assoc, length, arith}
use Rattle.std.specs.Global.{Vec}
use Rattle.std.specs.List.{IsDistinct, flat_map}
use Rattle.std.specs.Map.{keys_of}
use Rattle.par_flat.specs.Keys.{insert_keys}
use Rattle.par_flat.specs.Rooms.{bucket_of_hash}
use Rattle.par_flat.specs.Blocks.{AreOfBucket}
use Rattle.par_flat.proofs.Members.{insert_keys-append, length-insert_keys, length-keys_of}
use Rattle.par_flat.proofs.Unions.{all-insert_keys, chunk_fits, distinct-inserted, flat_map-push}
use Rattle.par_flat.proofs.block.fill_block.Goals as goal

pub insert_all-requires : goal.insert_all-requires
insert_all-requires g c =
    let whole : c.loop-chunk.yielded ++ c.in-Some.chunk ∷ c.next.new.self ≡ c.args.keys = ap (λ xs. c.loop-chunk.yielded ++ xs) (sym c.in-Some.ensures.steps) ∙ c.loop-chunk.invariant.whole in
    let small : length (keys_of c.loop-chunk.set) ≤ 0 + length (flat_map (λ (chunk : Vec g.row.K.Denot). chunk.items) c.loop-chunk.yielded) = rw c.loop-chunk.invariant.inserted (length-insert_keys g.K.PartialEq.eq [] (flat_map (λ (chunk : Vec g.row.K.Denot). chunk.items) c.loop-chunk.yielded)) in
    omega (arith, c.requires.count, small, length-keys_of c.loop-chunk.set, chunk_fits (λ (chunk : Vec g.row.K.Denot). chunk.items) c.args.keys c.loop-chunk.yielded c.next.new.self c.in-Some.chunk whole)

pub loop-chunk-preserved : goal.loop-chunk-preserved
loop-chunk-preserved g c = record {
  inserted = c.in_ok-insert_all.ensures.ok ∙ (ap (λ ks. insert_keys g.K.PartialEq.eq ks c.in-Some.chunk.items) c.loop-chunk.invariant.inserted ∙ (sym (insert_keys-append g.K.PartialEq.eq [] (flat_map (λ (chunk : Vec g.row.K.Denot). chunk.items) c.loop-chunk.yielded) c.in-Some.chunk.items) ∙ ap (insert_keys g.K.PartialEq.eq []) (sym (flat_map-push (λ (chunk : Vec g.row.K.Denot). chunk.items) c.loop-chunk.yielded c.in-Some.chunk))));
  whole = append_assoc c.loop-chunk.yielded (c.in-Some.chunk ∷ []) c.next.new.self ∙ (ap (λ xs. c.loop-chunk.yielded ++ xs) (sym c.in-Some.ensures.steps) ∙ c.loop-chunk.invariant.whole);
}

pub returns-clause-distinct : goal.returns-clause-distinct
returns-clause-distinct g c = subst (IsDistinct g.K.PartialEq.eq) (sym c.loop-chunk.invariant.inserted) (distinct-inserted g.K.PartialEq.eq g.met.K.Eq.laws (flat_map (λ (chunk : Vec g.row.K.Denot). chunk.items) c.loop-chunk.yielded))

pub returns-clause-bucket : goal.returns-clause-bucket
returns-clause-bucket g c =
    let all : c.loop-chunk.yielded ≡ c.args.keys = search rules in
    subst (AreOfBucket (λ k. bucket_of_hash (g.K.HashKey.hash (g.K.Shown.shown k))) c.args._bucket) (sym c.loop-chunk.invariant.inserted)
    (all-insert_keys (λ k. bucket_of_hash (g.K.HashKey.hash (g.K.Shown.shown k)) ≡ c.args._bucket) g.K.PartialEq.eq [] (flat_map (λ (chunk : Vec g.row.K.Denot). chunk.items) c.loop-chunk.yielded) tt
    (subst (λ chunks. AreOfBucket (λ k. bucket_of_hash (g.K.HashKey.hash (g.K.Shown.shown k))) c.args._bucket (flat_map (λ (chunk : Vec g.row.K.Denot). chunk.items) chunks)) (sym all) c.requires.keys))
