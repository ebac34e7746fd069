use Rattle.std.proofs.Common.{◌≡◌, ◌∙◌, ap, sym, ◌++◌, ◌∷◌, [], append_assoc, length, arith, ◌+◌, ◌≤◌}
use Rattle.par_index.specs.Entries.{joined}
use Rattle.par_index.proofs.Keeping.{joined-push, joined-room, buckets_apart}
use Rattle.par_trie.specs.Buckets.{bucket_of_hash}
use Rattle.par_trie.proofs.trie.HashTrie.from_buckets.Goals as goal

pub append-requires-clause-room : goal.append-requires-clause-room
append-requires-clause-room g c =
    let whole : c.loop-sub.yielded ++ c.in-Some.sub ∷ c.next.new.self.rest.items ≡ c.args.subs.items = ap (λ xs. c.loop-sub.yielded ++ xs) (sym c.in-Some.ensures.steps.0) ∙ c.loop-sub.invariant.whole in
    let room : length (joined c.loop-sub.yielded) + length c.in-Some.sub ≤ length (joined c.args.subs.items) = joined-room c.args.subs.items c.loop-sub.yielded c.next.new.self.rest.items c.in-Some.sub whole in
    let sub : length c.sub.inside.entries ≡ length c.in-Some.sub = ap length c.sub.view_is in
    let union : length c.loop-sub.union ≡ length (joined c.loop-sub.yielded) = ap length c.loop-sub.invariant.joined_so_far in
    omega (arith, c.requires.room)

pub append-requires-clause-apart : goal.append-requires-clause-apart
append-requires-clause-apart g c =
    let whole : c.loop-sub.yielded ++ c.in-Some.sub ∷ c.next.new.self.rest.items ≡ c.args.subs.items = ap (λ xs. c.loop-sub.yielded ++ xs) (sym c.in-Some.ensures.steps.0) ∙ c.loop-sub.invariant.whole in
    rw (c.sub.view_is, c.loop-sub.invariant.joined_so_far)
    (buckets_apart g.K.PartialEq.eq g.met.K.Eq.laws (λ k. bucket_of_hash (g.K.HashKey.hash (g.K.Shown.shown k))) (λ x y t. ap (λ v. bucket_of_hash (g.K.HashKey.hash v)) (g.met.K.HashKey.told x y t)) c.args.subs.items c.loop-sub.yielded c.next.new.self.rest.items c.in-Some.sub whole c.requires.buckets)

pub loop-sub-preserved : goal.loop-sub-preserved
loop-sub-preserved g c = record {
  joined_so_far = c.in_ok-append.ensures.ok ∙ (ap (λ xs. xs ++ c.sub.inside.entries) c.loop-sub.invariant.joined_so_far ∙ (ap (λ xs. joined c.loop-sub.yielded ++ xs) c.sub.view_is ∙ sym (joined-push c.loop-sub.yielded c.in-Some.sub)));
  whole = append_assoc c.loop-sub.yielded (c.in-Some.sub ∷ []) c.next.new.self.rest.items ∙ (ap (λ xs. c.loop-sub.yielded ++ xs) (sym c.in-Some.ensures.steps.0) ∙ c.loop-sub.invariant.whole);
  distinct = c.append.ensures.distinct;
}
