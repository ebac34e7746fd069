use Rattle.std.proofs.Common.{◌≤◌, ◌-◌}
use Rattle.par_task.specs.Chains.{IsLinked, IsNeeded}
use Rattle.par_task.proofs.cutting.chain.Given as goal

abbrev pub invariant-loop-head : goal.invariant-loop-head
invariant-loop-head g l = record {
  linked : IsLinked g.S.Splitter.items g.S.Splitter.lo l.fn.source l.node l.at l.head l.tails;
  some : 1 ≤ l.at;
  needed : IsNeeded g.S.Splitter.items g.S.Splitter.lo l.t l.head l.tails;
}

abbrev pub decreases-loop-head : goal.decreases-loop-head
decreases-loop-head g l = 2048 - l.at
