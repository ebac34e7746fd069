use Rattle.std.proofs.Common.{arith}
use Rattle.par_pool.proofs.Offering.{offering_first, offering_next, offering_last, node_near, node_free, piece}
use Rattle.par_pool.proofs.offers.Run+J+G+M.offer_tails.Goals as goal

pub loop-node-init : goal.loop-node-init
loop-node-init g c = let t = c.requires.tails in record {
  board = c.requires.board;
  offering = (t.1, offering_first g.J.Split.Splitter.items g.J.Split.Splitter.lo _ _ _ _ _ _ t.2 c.requires.tree);
}

pub offer-requires-clause-node : goal.offer-requires-clause-node
offer-requires-clause-node g c = node_near g.J.Split.Splitter.items g.J.Split.Splitter.lo c.requires.node.0 (rw c.in-Some.ensures at c.loop-node.invariant.offering.1)

pub offer-requires-clause-tree : goal.offer-requires-clause-tree
offer-requires-clause-tree g c = node_free g.J.Split.Splitter.items g.J.Split.Splitter.lo c.requires.node.0 (rw c.in-Some.ensures at c.loop-node.invariant.offering.1) c.tree_laws.ensures

pub offer-requires-clause-part : goal.offer-requires-clause-part
offer-requires-clause-part g c =
    let p = piece g.J.Split.Splitter.items g.J.Split.Splitter.lo c.requires.node.0 (rw c.in-Some.ensures at c.loop-node.invariant.offering.1) in
    rw c.requires.tracked p.span

pub invariant_of-try_push : goal.invariant_of-try_push
invariant_of-try_push g c = record {
  is_node = node_near g.J.Split.Splitter.items g.J.Split.Splitter.lo c.requires.node.0 (rw c.in-Some.ensures at c.loop-node.invariant.offering.1);
  is_span = let a = c.span-lo.ensures.lo in let b = c.span-lo.ensures.hi in omega (arith, a, b);
}

pub loop-node-preserved : goal.loop-node-preserved
loop-node-preserved g c = let inv = c.loop-node.invariant in record {
  board = c.offer.ensures.of;
  offering = (inv.offering.0, offering_next g.J.Split.Splitter.items g.J.Split.Splitter.lo c.requires.node.0 (rw c.in-Some.ensures at inv.offering.1) c.tree_laws.ensures _ c.offer.ensures.offered);
}

pub returns-clause-offered : goal.returns-clause-offered
returns-clause-offered g c = offering_last g.J.Split.Splitter.items g.J.Split.Splitter.lo (rw c.in_default.ensures.0 at c.loop-node.invariant.offering.1)
