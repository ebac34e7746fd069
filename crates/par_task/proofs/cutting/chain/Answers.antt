use Rattle.std.proofs.Common.{◌≡◌, ◌≤◌, ◌+◌, ◌*◌, sym, rules, arith, inl, inr, List, []}
use Rattle.par_task.proofs.ChainSteps.{linked_first, linked_next, no_whole, room, halves_count}
use Rattle.par_task.proofs.cutting.chain.Goals as goal
use Rattle.par_task.proofs.cutting.chain.Goals.{then-loop-head-test+else-at-le2047, else-loop-head-test}

pub loop-head-init : goal.loop-head-init
loop-head-init g c = rw c.new-tails.ensures (record {
  linked = linked_first g.S.Splitter.items g.S.Splitter.lo c.args.source c.args.node c.requires.node.1;
  some = c.requires.node.0;
  needed = tt;
})

pub push_front-requires : goal.push_front-requires
push_front-requires g c =
    let few : 2 * c.loop-head.at + 1 ≤ 2047 = omega arith in
    room g.S.Splitter.items g.S.Splitter.lo _ _ _ _ _ c.loop-head.invariant.linked c.requires.node.0 few

pub loop-head-preserved : goal.loop-head-preserved
loop-head-preserved g c =
    let few : 2 * c.loop-head.at + 1 ≤ 2047 = omega arith in
    rw c.push_front.ensures (record {
      linked = linked_next g.S.Splitter.items g.S.Splitter.lo _ _ _ _ _ _ _ c.loop-head.invariant.linked c.in-Two.ensures.cut few;
      some = omega arith;
      needed = halves_count g.S.Splitter.items g.S.Splitter.lo _ _ _ c.in-Two.ensures.cut _ (omega arith);
    })

pub returns : goal.returns
returns g c = record {
  linked = c.loop-head.invariant.linked;
  ended = elim c.loop-head-test.branch [
    | then-loop-head-test+else-at-le2047 w ↦ inr (omega arith)
    | else-loop-head-test w ↦ inl (omega arith)
  ];
  needed = c.loop-head.invariant.needed;
}
