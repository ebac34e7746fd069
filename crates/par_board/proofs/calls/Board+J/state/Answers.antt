use Rattle.std.proofs.Common.{rules}
use Rattle.par_board.proofs.Parting.{loads}
use Rattle.par_board.proofs.calls.Board+J.state.Goals as goal

pub load-requires : goal.load-requires
load-requires g c = (search rules, search rules, loads _ _ _ _ _ c.args.k c.seat.invariant.0 (search rules))
