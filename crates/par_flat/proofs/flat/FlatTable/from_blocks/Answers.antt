use Rattle.std.proofs.Common.{◌≡◌, ◌∙◌, ap, sym, ◌++◌, ◌∷◌, [], append_assoc, length, arith, ◌+◌, ◌≤◌}
use Rattle.std.specs.Map.{keys_of}
use Rattle.par_index.specs.Entries.{joined}
use Rattle.par_index.proofs.Keeping.{joined-push, joined-room}
use Rattle.par_flat.specs.Rooms.{bucket_of_hash}
use Rattle.par_flat.proofs.Members.{keys_of-append, length-keys_of}
use Rattle.par_flat.proofs.Unions.{blocks_apart}
use Rattle.par_flat.proofs.flat.FlatTable.from_blocks.Goals as goal

pub append-requires-clause-room : goal.append-requires-clause-room
append-requires-clause-room g c =
    let whole : c.loop-block.yielded ++ c.in-Some.block ∷ c.next.new.self.rest.items ≡ c.args.blocks.items = ap (λ xs. c.loop-block.yielded ++ xs) (sym c.in-Some.ensures.steps.0) ∙ c.loop-block.invariant.whole in
    let room : length (joined c.loop-block.yielded) + length c.in-Some.block ≤ length (joined c.args.blocks.items) = joined-room c.args.blocks.items c.loop-block.yielded c.next.new.self.rest.items c.in-Some.block whole in
    omega (arith, c.requires.room, room, length-keys_of c.loop-block.union, length-keys_of c.into_keys.result, ap length c.into_keys.ensures, ap length c.loop-block.invariant.joined_so_far)

pub append-requires-clause-apart : goal.append-requires-clause-apart
append-requires-clause-apart g c =
    let whole : c.loop-block.yielded ++ c.in-Some.block ∷ c.next.new.self.rest.items ≡ c.args.blocks.items = ap (λ xs. c.loop-block.yielded ++ xs) (sym c.in-Some.ensures.steps.0) ∙ c.loop-block.invariant.whole in
    blocks_apart g.K.PartialEq.eq (λ k. bucket_of_hash (g.K.HashKey.hash (g.K.Shown.shown k))) (λ x y t. ap (λ v. bucket_of_hash (g.K.HashKey.hash v)) (g.met.K.HashKey.told x y t)) c.loop-block.union c.into_keys.result c.args.blocks.items c.loop-block.yielded c.next.new.self.rest.items c.loop-block.invariant.joined_so_far (ap (λ ks. c.loop-block.yielded ++ ks ∷ c.next.new.self.rest.items) c.into_keys.ensures ∙ whole) c.requires.buckets

pub loop-block-preserved : goal.loop-block-preserved
loop-block-preserved g c = record {
  joined_so_far = ap keys_of c.in_ok-append.ensures.ok ∙ (keys_of-append c.loop-block.union c.into_keys.result ∙ (ap (λ ks. ks ++ keys_of c.into_keys.result) c.loop-block.invariant.joined_so_far ∙ (ap (λ ks. joined c.loop-block.yielded ++ ks) c.into_keys.ensures ∙ sym (joined-push c.loop-block.yielded c.in-Some.block))));
  whole = append_assoc c.loop-block.yielded (c.in-Some.block ∷ []) c.next.new.self.rest.items ∙ (ap (λ xs. c.loop-block.yielded ++ xs) (sym c.in-Some.ensures.steps.0) ∙ c.loop-block.invariant.whole);
  distinct = c.append.ensures.distinct;
}
