use Rattle.std.proofs.Common.{◌≡◌, [], false, All, take}
use Rattle.crossbeam_deque.specs.Handles.{view}
use Rattle.par_market.specs.Deques.{account}
use Rattle.par_market.specs.Seats.{deques_of, lane_deques, IsBare}
use Rattle.par_market.proofs.deque.lanes.Given as goal

abbrev pub invariant-loop-thief : goal.invariant-loop-thief
invariant-loop-thief l = (lane_deques l.lanes.items ≡ deques_of (take l.thief-index l.thieves)) × All (λ x. IsBare x × (x.empty ≡ 0) × (view x.pass ≡ account false [] [])) l.lanes.items
