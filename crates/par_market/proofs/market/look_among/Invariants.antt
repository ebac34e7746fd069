use Rattle.std.proofs.Common.{◌≡◌}
use Rattle.par_market.specs.Markets.{AreEmpty}
use Rattle.par_market.proofs.market.look_among.Given as goal

abbrev pub invariant-loop-k : goal.invariant-loop-k
invariant-loop-k g l = record {
  of : g.M.Market.is_of l.market l.seat;
  empty : AreEmpty l.own l.lo l.k (g.M.Market.empty l.fn.seat) (g.M.Market.empty l.seat);
  known : g.M.Market.known l.seat ≡ g.M.Market.known l.fn.seat;
}
