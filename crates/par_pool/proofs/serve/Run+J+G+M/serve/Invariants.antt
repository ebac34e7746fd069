use Rattle.std.proofs.Common.{◌≡◌, ◌≢◌, ℕ, ◌<◌, ◌≤◌, length}
use Rattle.par_board.specs.Seen.{not_held, holds_at}
use Rattle.par_board.specs.Calls.{Holds}
use Rattle.par_task.specs.Marking.{marks_of}
use Rattle.par_pool.specs.Bundles.{IsBundle}
use Rattle.par_pool.specs.Own.{IsWorker}
use Rattle.par_pool.proofs.Gathering.{Gathering}
use Rattle.par_pool.proofs.serve.Run+J+G+M.serve.Given as goal

abbrev pub invariant-loop-at : goal.invariant-loop-at
invariant-loop-at g l = record {
  number : l.worker.number ≡ l.fn.worker.number;
  worker : IsWorker g.J.Job.kind (marks_of g.J.Job.kind (g.J.Job.verdicts l.self.job.now)) l.self.board.now.of l.self.signals.now l.worker.number l.worker.seat l.worker.signal l.worker.leaves.items;
  node : 0 < l.k;
  gathering : (lo : ℕ) × (hi : ℕ) × Holds l.k lo hi l.worker.seat × (hi ≤ length (g.J.Job.source l.self.job.now))
      × Gathering g.J.Split.Splitter.items g.J.Split.Splitter.lo (g.J.Job.source l.self.job.now)
      (λ to. (lo ≤ to) × IsBundle g.J.Job.kind (marks_of g.J.Job.kind (g.J.Job.verdicts l.self.job.now)) (g.J.Job.good l.self.job.now) (g.J.Job.merges l.self.job.now) g.J.Part.Shown.shown lo to l.part) l.k l.at hi l.worker.seat;
  loose : (m : ℕ) → m < 2048 → m ≢ l.k → holds_at l.worker.seat m ≡ not_held;
}

abbrev pub decreases-loop-at : goal.decreases-loop-at
decreases-loop-at g l = l.at
