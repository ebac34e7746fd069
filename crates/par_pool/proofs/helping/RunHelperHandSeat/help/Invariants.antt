use Rattle.par_task.specs.Marking.{marks_of}
use Rattle.par_pool.specs.Own.{IsResting}
use Rattle.par_pool.proofs.helping.RunHelperHandSeat.help.Given as goal

abbrev pub invariant-loop : goal.invariant-loop
invariant-loop g l = record {
  steps : (goal.iterator-loop g).can_next l.iterator';
  ends : (goal.iterator-loop g).is_finite l.iterator';
  worker : IsResting g.J.Job.kind (marks_of g.J.Job.kind (g.J.Job.verdicts l.self.job.now)) l.self.board.now.of l.self.signals.now l.hand.worker.number l.hand.worker.seat l.hand.worker.signal l.hand.worker.leaves.items;
  place : g.M.Market.is_of l.self.market.now l.hand.place;
}
