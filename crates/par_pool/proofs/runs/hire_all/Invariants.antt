use Rattle.std.proofs.Common.{◌≡◌, ◌+◌, ◌≤◌, length}
use Rattle.std.specs.List.{All}
use Rattle.par_task.specs.Marking.{marks_of}
use Rattle.par_pool.specs.Own.{IsResting}
use Rattle.par_pool.proofs.runs.hire_all.Given as goal

abbrev pub invariant-loop-place : goal.invariant-loop-place
invariant-loop-place g l = record {
  root : (l.root.of ≡ l.fn.root.of) × (l.root.owns ≡ l.fn.root.owns) × (l.root.holds ≡ l.fn.root.holds);
  of : l.root.of ≡ l.board.of;
  signal : l.signal.of ≡ l.signals;
  hands : All (λ h. IsResting g.J.Job.kind (marks_of g.J.Job.kind (g.J.Job.verdicts l.board.job.job.value)) l.board.of l.signals h.worker.number h.worker.seat h.worker.signal h.worker.leaves.items × g.M.Market.is_of l._market h.place) l.hands.items;
  places : All (g.M.Market.is_of l._market) l.place-iterator.rest.items;
  few : l.number + length l.place-iterator.rest.items ≤ 64;
}
