use Rattle.std.proofs.Common.{arith, false, subst, sym, ap, ◌∙◌, get_or, get_or-set_other}
use Rattle.par_board.specs.Calls.{IsLast}
use lib.ListN.{get_elem?}
use mathlib.Core.Logic.{dite}
use native.Mathlib.Decide.{ℕ_discrete}
use Rattle.par_board.proofs.Ending.{ends, set_false}
use Rattle.par_board.proofs.seats.Board+J.close.Goals as goal
use Rattle.par_board.proofs.seats.Board+J.close.Goals.{then-state-eq0, else-state-eq0}

pub loop-k-init : goal.loop-k-init
loop-k-init g c = let e = c.close_with-closed.ensures in let sized = c.self.invariant in let a = e.counts.0 ∙ sized.0 in let b = e.counts.1 ∙ sized.1 in (
  a,
  b,
  (λ k h. e.values.0 k (omega arith) (omega arith)),
  (λ k _ h. e.values.1 k (omega arith) (omega arith)),
  (λ k h. absurd (omega arith)),
  ends _ _ _ c.seat.inside.seat.me.0 _ _ c.seat.invariant.0 (subst IsLast (sym c.seat.view_is) c.requires.last) e.values.2,
)

pub prove-unreachable-requires : goal.prove-unreachable-requires
prove-unreachable-requires g c = let over = (c.loop-k.invariant.5 c.loop-k.k c.loop-k-test.true).0 c.word-state.result c.word-state.ensures in let no = c.if-prove.true in
    elim c.if-state-eq0.branch [ then-state-eq0 w ↦ grind (arith, over) | else-state-eq0 w ↦ grind (arith, over) ]

pub take-requires : goal.take-requires
take-requires g c = let inv = c.loop-k.invariant in let i = c.loop-k-test.true in let len = inv.1 in (omega arith, inv.3 c.loop-k.k (omega arith) i)

pub loop-k-preserved : goal.loop-k-preserved
loop-k-preserved g c = let inv = c.loop-k.invariant in let o = c.take.ensures.others in (
  ap (λ s. s.len) o.3 ∙ inv.0,
  o.2 ∙ inv.1,
  (λ k h. ap (λ s. get_or s.filled k false) o.3 ∙ inv.2 k h),
  (λ k a h. ap (λ s. get_or s k false) o.1 ∙ (get_or-set_other c.loop-k.closed.slots.filled c.loop-k.k k false false (λ e. omega arith) ∙ inv.3 k (omega arith) h)),
  (λ k h. dite (ℕ_discrete k c.loop-k.k) (λ e. ap (λ s. get_or s k false) o.1 ∙ set_false c.loop-k.closed.slots.filled c.loop-k.k k e) (λ ne. ap (λ s. get_or s k false) o.1 ∙ (get_or-set_other c.loop-k.closed.slots.filled c.loop-k.k k false false ne ∙ inv.4 k (omega arith)))),
  (λ m h. let was = inv.5 m h in ((λ w e. was.0 w (sym (ap (λ s. get_elem? s.items m) o.3) ∙ e)), ap (λ l. get_elem? l m) o.0 ∙ was.1)),
)
