use Rattle.std.proofs.Common.{◌≡◌, length}
use Rattle.par_market.proofs.locked.LockedMarket.open.Given as goal

abbrev pub invariant-loop : goal.invariant-loop
invariant-loop l = length l.all.items ≡ l.counter
