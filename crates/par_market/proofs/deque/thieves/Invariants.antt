use Rattle.std.proofs.Common.{◌≡◌, map, take}
use Rattle.crossbeam_deque.specs.Handles.{worker_deque}
use Rattle.par_market.specs.Seats.{deques_of}
use Rattle.par_market.proofs.deque.thieves.Given as goal

abbrev pub invariant-loop-owner : goal.invariant-loop-owner
invariant-loop-owner l = deques_of l.thieves.items ≡ map worker_deque (take l.owner-index l.owners)
