use Rattle.std.proofs.Common.{refl}
use Rattle.std.proofs.lemmas.List.Elements.{All-more}
use Rattle.par_task.specs.declared.audit.Leaf.{Leaf}
use Rattle.par_pool.specs.Lists.{StandsAt}
use Rattle.par_pool.proofs.Tiling.{blank, all_of}
use Rattle.par_pool.proofs.check.all_stand.Goals as goal

pub loop-leaf-preserved : goal.loop-leaf-preserved
loop-leaf-preserved c = All-more (λ (a : Leaf). StandsAt (λ v. v.items) c.args.lists.now a) c.args.leaves.now c.loop-leaf.leaf-index blank c.loop-leaf-test.true c.loop-leaf.invariant (c.if-not-stands.ensures refl)

pub returns : goal.returns
returns c = λ t a k. all_of (λ (a : Leaf). StandsAt (λ v. v.items) c.args.lists.now a) c.args.leaves.now c.loop-leaf.leaf-index c.loop-leaf-test.false c.loop-leaf.invariant a k
