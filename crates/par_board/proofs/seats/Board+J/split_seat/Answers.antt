use Rattle.std.proofs.Common.{rules, ◌∙◌, ap}
use Rattle.par_board.specs.Seen.{not_owned, not_held, owns_at, holds_at}
use Rattle.par_board.proofs.Parting.{splits}
use Rattle.par_board.proofs.Tables.{at_table}
use Rattle.par_board.proofs.seats.Board+J.split_seat.Goals as goal

pub split_seat-seat-requires : goal.split_seat-seat-requires
split_seat-seat-requires g c = (search rules, search rules, splits _ _ _ _ c.seat.invariant.0)

pub returns-clause-bare : goal.returns-clause-bare
returns-clause-bare g c = λ m h. let e = c.split_seat-seat.ensures.4 in (ap (λ x. owns_at x.0 m) e ∙ at_table (λ _. not_owned) m not_owned h, ap (λ x. holds_at x.0 m) e ∙ at_table (λ _. not_held) m not_held h)
