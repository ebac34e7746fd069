use Rattle.std.proofs.Common.{◌≡◌, ◌∙◌, ◌≤◌, [], ◌∷◌, ◌++◌, ap, sym, length, arith, append_assoc}
use Rattle.par_index.specs.Entries.{joined}
use Rattle.par_buckets.proofs.Held.{joined-push, joined-fits}
use Rattle.par_buckets.proofs.lists.BucketLists.into_vec.Goals as goal

pub append-requires : goal.append-requires
append-requires g c =
    let whole : c.loop-chunks.yielded ++ c.in-Some.chunks ∷ c.next.new.self.rest.items ≡ c.args.self.1 = ap (λ xs. c.loop-chunks.yielded ++ xs) (sym c.in-Some.ensures.steps.0) ∙ c.loop-chunks.invariant.whole in
    let total : length (joined c.args.self.1) ≤ 4194304 = omega (arith, ap (λ v. length (joined v.1)) c.self.view_is, c.self.invariant.total, c.self.invariant.small) in
    omega (arith, joined-fits c.args.self.1 c.loop-chunks.yielded c.next.new.self.rest.items c.in-Some.chunks whole, total, ap length c.loop-chunks.invariant.joined_so_far)

pub loop-chunks-preserved : goal.loop-chunks-preserved
loop-chunks-preserved g c = record {
  joined_so_far = c.append.ensures ∙ (ap (λ xs. xs ++ c.in-Some.chunks) c.loop-chunks.invariant.joined_so_far ∙ sym (joined-push c.loop-chunks.yielded c.in-Some.chunks));
  whole = append_assoc c.loop-chunks.yielded (c.in-Some.chunks ∷ []) c.next.new.self.rest.items ∙ (ap (λ xs. c.loop-chunks.yielded ++ xs) (sym c.in-Some.ensures.steps.0) ∙ c.loop-chunks.invariant.whole);
}
