use Rattle.std.proofs.Common.{ℕ, ◌+◌, ap, ◌∙◌, arith}
use Rattle.par_board.proofs.Spanning.{second_piece}
use Rattle.par_board.proofs.Sharing.{cuts}
use Rattle.par_board.proofs.tests.cut_off.Goals as goal

pub offer-requires-2-clause-tree : goal.offer-requires-2-clause-tree
offer-requires-2-clause-tree c = let claimed = c.in-Mine.ensures.claim.2 in let laws = c.tree_laws.ensures in
    (claimed.tree 3 (omega arith) (laws.child_below 1 3 (omega arith)), λ m near e. claimed.tree m near (laws.below_child 1 3 m (omega arith) near (omega arith) e))

pub offer-requires-2-clause-part : goal.offer-requires-2-clause-part
offer-requires-2-clause-part c = second_piece _ _ _ _ _ _ _ _ c.in-Mine.ensures.claim.3 c.in-Two.ensures.cut

pub returns-clause-cut : goal.returns-clause-cut
returns-clause-cut c = let claim = c.in-Mine.ensures.claim in
    cuts _ _ _ _ c.requires.all c.offer.ensures.offered claim.2 c.offer-2.ensures.offered (ap (λ (k : ℕ). claim.0 + k) c.remaining-count.ensures ∙ claim.3.ends)
