use Rattle.std.proofs.Common.{arith, ◌∙◌, ap, sym, subst, length}
use Rattle.std.proofs.lemmas.List.Elements.{All-push, All-head, All-tail}
use Rattle.par_task.specs.Marking.{marks_of}
use Rattle.par_pool.specs.Own.{IsResting}
use Rattle.par_pool.proofs.runs.hire_all.Goals as goal

pub loop-place-preserved : goal.loop-place-preserved
loop-place-preserved g c =
    let inv = c.loop-place.invariant in
    let hired = c.hire.ensures in
    let step = c.in-Some.ensures.steps.0 in
    let all = rw step at inv.places in
    let of = g.M.Market.is_of c.args._market.now in
    let hand = c.in_ok-hire.ensures.hand in
    record {
      root = (hired.root.0 ∙ inv.root.0, hired.root.1 ∙ inv.root.1, hired.root.2 ∙ inv.root.2);
      of = hired.root.0 ∙ inv.of;
      signal = hired.signal;
      hands = rw c.in_ok-push.ensures.items (All-push
          (λ h. IsResting g.J.Job.kind (marks_of g.J.Job.kind (g.J.Job.verdicts c.args.board.now.job.job.value)) c.args.board.now.of c.args.signals.now h.worker.number h.worker.seat h.worker.signal h.worker.leaves.items × of h.place)
          c.loop-place.hands.items c.in_ok-hire.field-0 inv.hands (hand.0, subst of (sym hand.1) (All-head of _ _ all)));
      places = All-tail of _ _ all;
      few = let n = ap length step in let f = inv.few in omega (arith, n, f);
    }
