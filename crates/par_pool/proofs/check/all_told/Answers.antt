use Rattle.std.proofs.Common.{refl, subst}
use Rattle.std.specs.List.{Contains}
use Rattle.std.proofs.lemmas.List.Elements.{All-more}
use Rattle.par_task.specs.declared.audit.Leaf.{Leaf}
use Rattle.par_pool.proofs.Tiling.{all_of}
use Rattle.par_pool.proofs.check.all_told.Goals as goal

pub loop-list-preserved : goal.loop-list-preserved
loop-list-preserved c =
    All-more (λ v. (a : Leaf) → Contains v.items a → Contains c.args.leaves.now a) c.args.lists.now c.loop-list.list-index c.list-item.result c.loop-list-test.true c.loop-list.invariant
    (subst (λ v. (a : Leaf) → Contains v.items a → Contains c.args.leaves.now a) c.list-item.is (rw c.deref.ensures.value at c.if-not-are_told.ensures refl))

pub returns : goal.returns
returns c = λ t v k a. all_of (λ v. (a : Leaf) → Contains v.items a → Contains c.args.leaves.now a) c.args.lists.now c.loop-list.list-index c.loop-list-test.false c.loop-list.invariant v k a
