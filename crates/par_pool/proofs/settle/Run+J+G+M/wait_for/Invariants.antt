use Rattle.std.proofs.Common.{◌≡◌}
use Rattle.par_board.specs.Calls.{OwnsSame, HoldsSame}
use Rattle.par_pool.proofs.settle.Run+J+G+M.wait_for.Given as goal

abbrev pub invariant-loop : goal.invariant-loop
invariant-loop g l =
    ((goal.iterator-loop g).can_next l.iterator' × (goal.iterator-loop g).is_finite l.iterator')
    × (l.seat.of ≡ l.self.board.now.of) × OwnsSame l.initial.seat l.seat × HoldsSame l.initial.seat l.seat
