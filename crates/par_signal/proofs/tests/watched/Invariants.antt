use Rattle.std.proofs.Common.{◌≡◌}
use Rattle.par_signal.proofs.tests.watched.Given as goal

abbrev pub invariant-loop : goal.invariant-loop
invariant-loop l = l.seat.of ≡ l.fn.signals
