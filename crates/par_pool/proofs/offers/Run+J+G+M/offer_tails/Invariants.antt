use Rattle.std.proofs.Common.{◌≡◌, ℕ, length}
use Rattle.par_pool.proofs.Offering.{Offering}
use Rattle.par_pool.proofs.offers.Run+J+G+M.offer_tails.Given as goal

abbrev pub invariant-loop-node : goal.invariant-loop-node
invariant-loop-node g l = record {
  board : l.seat.of ≡ l.self.board.now.of;
  offering : (hi : ℕ) × Offering g.J.Split.Splitter.items g.J.Split.Splitter.lo (g.J.Job.source l.self.job.now) l._k hi l.initial.left l.left l.initial.seat l.seat;
}

abbrev pub decreases-loop-node : goal.decreases-loop-node
decreases-loop-node g l = length l.left
