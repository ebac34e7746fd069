use Rattle.std.proofs.Common.{◌∷◌}
use Rattle.pipe_text.specs.declared.lexeme.Symbol.TheVariants.{Comma}
use Rattle.pipe_print.specs.Items.{Mark}
use Rattle.pipe_print.proofs.Writing.{more_entries}
use Rattle.pipe_print.proofs.entry.and_more.Goals as goal

pub loop-one-preserved : goal.loop-one-preserved
loop-one-preserved g c =
    more_entries c.args.version (λ y. Mark Comma ∷ g.E.Entry.items y) c.args.out.now.items c.loop-one.out.items c.and_one.new.out.items c.args.rest.now c.loop-one.one-index c.one-item.result
    c.loop-one-test.true c.one-item.is c.loop-one.invariant c.in_ok-and_one.ensures
