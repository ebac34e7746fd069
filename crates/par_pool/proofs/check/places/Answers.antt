use Rattle.std.proofs.Common.{rules, arith, ◌≡◌, ◌+◌, get_or, refl, ◌∙◌}
use Rattle.std.proofs.lemmas.List.{get_or_default, length-set}
use Rattle.par_task.specs.declared.audit.Leaf.{Leaf}
use Rattle.par_pool.proofs.Tiling.{blank, filling_next}
use Rattle.par_pool.proofs.check.places.Goals as goal

pub loop-place-preserved : goal.loop-place-preserved
loop-place-preserved c =
    let leaf : Leaf = get_or c.args.leaves.now c.loop-place.place blank in
    let empty : get_or c.loop-place.table.items leaf.node 0 ≡ 0 = let i = c.index.ensures in let z = c.if-index-ne0.false in search rules in
    filling_next c.loop-place.table.items _ c.args.leaves.now c.loop-place.place leaf c.loop-place.invariant c.loop-place-test.true (get_or_default c.args.leaves.now c.loop-place.place blank leaf c.loop-place-test.true) c.if-node-lt1.false (let h = c.if-node-ge-NODES.false in omega (arith, h)) empty refl
    (length-set c.loop-place.table.items leaf.node (c.loop-place.place + 1) ∙ c.loop-place.invariant.wide)
