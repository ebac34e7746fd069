use Rattle.std.proofs.Common.{length}
use Rattle.par_pool.proofs.offers.Run+J+G+M.post_all.Given as goal

abbrev pub invariant-loop-ticket : goal.invariant-loop-ticket
invariant-loop-ticket g l = g.M.Market.is_of l.self.market.now l.place

abbrev pub decreases-loop-ticket : goal.decreases-loop-ticket
decreases-loop-ticket g l = length l.tickets.items
