use Rattle.std.proofs.Common.{rules, arith, ◌≡◌, [], true, ◌∙◌, sym, ap, length, map, drop, List}
use Rattle.std.proofs.lemmas.List.{drop-map, drop-drop, length_push}
use Rattle.std.proofs.lemmas.List.Elements.{All-drop}
use Rattle.crossbeam_deque.specs.Handles.{worker_deque, worker_view}
use Rattle.par_market.specs.Deques.{account}
use Rattle.par_market.specs.Seats.{DequeId, deques_of, fresh}
use Rattle.par_market.proofs.Lanes.{each_push}
use Rattle.par_market.proofs.deque.DequeMarket.open.Goals as goal

pub loop-own-preserved : goal.loop-own-preserved
loop-own-preserved c =
    let inv = c.loop-own.invariant in
    let ds : List DequeId = deques_of c.in_ok-thieves.thieves.items in
    let rest = c.remove.ensures.items in
    let all = c.in_ok-push.ensures.items in
    record {
      left = ap (λ v. map worker_deque v) rest ∙ (sym (drop-map worker_deque 1 c.loop-own.owners.items) ∙ (ap (λ (v : List DequeId). drop 1 v) inv.left ∙ drop-drop 1 c.loop-own.own ds));
      new = rw rest (All-drop (λ w. worker_view w ≡ account true [] []) 1 c.loop-own.owners.items inv.new);
      count = inv.count;
      len = let n = ap length all in let m = length_push c.loop-own.all.items c.in_ok-seat_of.field-0 in omega (arith, n, m, inv.len);
      each = rw all (each_push (λ i. fresh ds i) c.loop-own.all.items c.in_ok-seat_of.field-0 c.loop-own.own inv.len (search rules) inv.each);
    }
