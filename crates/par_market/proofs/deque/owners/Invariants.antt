use Rattle.std.proofs.Common.{◌≡◌, [], true, All, length}
use Rattle.crossbeam_deque.specs.Handles.{worker_view}
use Rattle.par_market.specs.Deques.{account}
use Rattle.par_market.proofs.deque.owners.Given as goal

abbrev pub invariant-loop : goal.invariant-loop
invariant-loop l = (length l.owners.items ≡ l.counter) × All (λ w. worker_view w ≡ account true [] []) l.owners.items
