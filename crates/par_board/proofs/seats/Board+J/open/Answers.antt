use Rattle.std.proofs.Common.{arith, ℕ, ◌≤◌, refl, sym, subst, ap, ◌∙◌, length}
use Rattle.std.proofs.lemmas.Grind.{common_steps}
use Rattle.par_board.specs.Seen.{owned_free, not_owned, not_held, owns_at, holds_at}
use Rattle.par_board.proofs.Parting.{starts, zeros_of}
use Rattle.par_board.proofs.Tables.{at_table}
use Rattle.par_board.proofs.seats.Board+J.open.Goals as goal

pub vacant-requires : goal.vacant-requires
vacant-requires g c = let few = subst (λ x. length (g.J.Job.source x) ≤ 4194304) (sym c.of-key.ensures) (subst (λ (x : ℕ). x ≤ 4194304) (sym c.requires.length) c.requires.few) in
    starts _ _ _ 2048 refl few (grind (arith, common_steps)) (λ k h. zeros_of 2048 c.as_slice.result.now (c.as_slice.ensures.value ∙ c.in-Ok.ensures.items_if_clones_equal (λ y e. e)) k)

pub returns-clause-all : goal.returns-clause-all
returns-clause-all g c = λ m h. let e = c.in-Ok-vacant.ensures.4 in (ap (λ x. owns_at x.0 m) e ∙ at_table (λ _. owned_free) m not_owned h, ap (λ x. holds_at x.0 m) e ∙ at_table (λ _. not_held) m not_held h)
