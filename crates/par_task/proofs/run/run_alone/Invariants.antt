use Rattle.std.proofs.Common.{◌≡◌, ℕ, ◌≤◌, List, length, sum_by}
use Rattle.par_task.specs.Marking.{marks_of}
use Rattle.par_task.proofs.Running.{IsGoing}
use Rattle.par_task.specs.declared.audit.Leaf.{Leaf}
use Rattle.par_task.proofs.run.run_alone.Given as goal

abbrev pub invariant-loop-node : goal.invariant-loop-node
invariant-loop-node g l = record {
  going :
      IsGoing g.J.Split.Splitter.items g.J.Split.Splitter.lo g.J.Job.kind (marks_of g.J.Job.kind (g.J.Job.verdicts l.job)) (g.J.Job.good l.job) (g.J.Job.merges l.job) (g.J.Job.source l.job) l.node l.initial.tails l.tails l.turn l.seat l.leaves.items (g.J.Part.Shown.shown l.part);
  test : l.probe.inner ≡ l.inner;
  seat : l.seat.of ≡ l.initial.seat.of;
  made : l.probe.made ≡ sum_by (λ (x : Leaf). x.tested) l.leaves.items;
}

abbrev pub decreases-loop-node : goal.decreases-loop-node
decreases-loop-node g l = length l.tails
