use Rattle.std.proofs.Common.{rules, ◌∷◌, Some, sym, ◌∙◌}
use Rattle.atomic_table.specs.Table.{rest}
use Rattle.par_board.proofs.calls.Board+J.take_out.Goals as goal

pub exchange-requires : goal.exchange-requires
exchange-requires g c = let e = c.requires.load.1 in (search rules, (Some c.requires.load.0, e ∙ (λ i. (c.args.k, Some c.requires.load.0) ∷ rest (sym e i))))
