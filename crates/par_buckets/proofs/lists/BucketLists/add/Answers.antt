use Rattle.std.proofs.Common.{◌≡◌, ◌∙◌, ◌+◌, ◌∷◌, ◌++◌, [], ap, sym, subst, arith, length, get_or, set}
use Rattle.par_buckets.specs.Held.{IsHeld}
use Rattle.par_buckets.proofs.Held.{at_default, few-at, held-added}
use Rattle.par_buckets.proofs.lists.BucketLists.add.Goals as goal

pub push-requires : goal.push-requires
push-requires g c =
    let here : c.index_mut.result.now ≡ get_or c.self.inside.lists.items c.args.bucket [] = c.index_mut.ensures.value ∙ at_default c.self.inside.lists.items c.args.bucket c.index_mut.result.now [] (omega (arith, c.self.invariant.many, c.requires.bucket)) in
    omega (arith, ap length here, few-at c.self.inside.lists.items c.args.bucket, c.self.invariant.total, ap (λ v. v.0) c.self.view_is, c.requires.room)

pub invariant_of-self-2 : goal.invariant_of-self-2
invariant_of-self-2 g c =
    let here : c.index_mut.result.now ≡ get_or c.self.inside.lists.items c.args.bucket [] = c.index_mut.ensures.value ∙ at_default c.self.inside.lists.items c.args.bucket c.index_mut.result.now [] (omega (arith, c.self.invariant.many, c.requires.bucket)) in
    let more : c.push.new.self ≡ get_or c.self.inside.lists.items c.args.bucket [] ++ c.args.item ∷ [] = c.in_ok-push.ensures.items ∙ ap (λ xs. xs ++ c.args.item ∷ []) here in
    subst (λ xs. IsHeld (c.self.inside.count + 1) (set c.self.inside.lists.items c.args.bucket xs)) (sym more) (held-added c.self.inside.count c.args.bucket c.self.inside.lists.items c.args.item c.self.invariant c.requires.bucket (omega (arith, ap (λ v. v.0) c.self.view_is, c.requires.room)))
