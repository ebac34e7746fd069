use Rattle.std.proofs.Common.{◌≡◌, ◌<◌, ℕ, [], true, All, length, map, drop, slice_index_or}
use Rattle.crossbeam_deque.specs.Handles.{worker_deque, worker_view}
use Rattle.par_market.specs.Deques.{account}
use Rattle.par_market.specs.Seats.{Seats, deques_of, fresh}
use Rattle.par_market.proofs.deque.DequeMarket.open.Given as goal

abbrev pub invariant-loop-own : goal.invariant-loop-own
invariant-loop-own l = record {
  left : map worker_deque l.owners.items ≡ drop l.own (deques_of l.thieves.items);
  new : All (λ w. worker_view w ≡ account true [] []) l.owners.items;
  count : length (deques_of l.thieves.items) ≡ l.seats;
  len : length l.all.items ≡ l.own;
  each : (i : ℕ) (d : Seats) → i < l.own → slice_index_or l.all.items i d ≡ fresh (deques_of l.thieves.items) i;
}
