use Rattle.par_market.proofs.Lanes.{seat_fresh}
use Rattle.par_market.proofs.deque.seat_of.Goals as goal

pub returns : goal.returns
returns c = seat_fresh c.args.own c.in_ok-lanes.lanes.items _ _ c.in_ok-lanes.ensures.deques c.in_ok-lanes.ensures.new c.requires.new
