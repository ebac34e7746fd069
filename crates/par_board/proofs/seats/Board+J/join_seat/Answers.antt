use Rattle.std.proofs.Common.{rules, ◌∙◌, ap, subst, sym}
use Rattle.par_board.specs.Seen.{not_owned, owns_at}
use Rattle.par_board.specs.Calls.{merge, HoldsNothing}
use Rattle.par_board.proofs.Parting.{joins}
use Rattle.par_board.proofs.Tables.{at_table}
use Rattle.par_board.proofs.seats.Board+J.join_seat.Goals as goal

pub join_seat-requires : goal.join_seat-requires
join_seat-requires g c = let empty : HoldsNothing c.other.inside.seat.me.0 = subst HoldsNothing (sym c.other.view_is) c.requires.other.1 in
    (search rules, search rules, search rules, search rules, joins _ _ _ c.seat.inside.seat.me.0 _ c.other.inside.seat.me.0 c.seat.invariant.0 c.other.invariant.0 empty)

pub returns-clause-owns : goal.returns-clause-owns
returns-clause-owns g c = λ m h. ap (λ x. owns_at x.0 m) c.join_seat.ensures.2 ∙ at_table (λ q. merge (owns_at c.seat.inside.seat.me.0 q) (owns_at c.other.inside.seat.me.0 q)) m not_owned h ∙ ap (λ x. merge (owns_at x m) (owns_at c.other.inside.seat.me.0 m)) c.seat.view_is ∙ ap (λ x. merge (owns_at c.args.seat.now m) (owns_at x m)) c.other.view_is
