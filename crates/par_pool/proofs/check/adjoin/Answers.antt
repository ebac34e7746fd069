use Rattle.std.proofs.Common.{sym, subst, take, List, get_or}
use Rattle.std.proofs.lemmas.List.{take_more}
use Rattle.par_task.specs.Audits.{Adjoins}
use Rattle.par_task.specs.declared.audit.Leaf.{Leaf}
use Rattle.par_pool.proofs.Tiling.{blank, adjoins_push}
use Rattle.par_pool.proofs.check.adjoin.Goals as goal

pub loop-leaf-preserved : goal.loop-leaf-preserved
loop-leaf-preserved c =
    let leaf : Leaf = get_or c.args.leaves.now c.loop-leaf.leaf-index blank in
    subst (λ (v : List Leaf). Adjoins 0 leaf.hi v) (sym (take_more c.args.leaves.now c.loop-leaf.leaf-index blank c.loop-leaf-test.true))
    (adjoins_push 0 c.loop-leaf.at (take c.loop-leaf.leaf-index c.args.leaves.now) leaf c.loop-leaf.invariant c.if-leaf-at.false c.if-leaf.false)
