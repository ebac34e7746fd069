use Rattle.std.proofs.Common.{rules, ◌∷◌, None, sym, ◌∙◌}
use Rattle.atomic_table.specs.Table.{rest}
use Rattle.par_board.proofs.calls.Board+J.put_in.Goals as goal

pub exchange-requires : goal.exchange-requires
exchange-requires g c = let e = c.requires.empty in (search rules, (None, e ∙ (λ i. (c.args.k, None) ∷ rest (sym e i))))
