use Rattle.std.proofs.Common.{◌∷◌, []}
use Rattle.pipe_text.specs.declared.lexeme.Symbol.TheVariants.{Comma}
use Rattle.pipe_print.specs.Items.{Mark}
use Rattle.pipe_print.proofs.Writing.{then}
use Rattle.pipe_print.proofs.entry.and_one.Goals as goal

pub returns : goal.returns
returns g c =
    then c.args.version c.args.out.now.items c.mark.new.out.items c.write.new.out.items (Mark Comma ∷ []) (g.E.Entry.items c.args.one.now)
    c.in_ok-mark.ensures c.in_ok-write.ensures
