use Rattle.std.proofs.Common.{◌∷◌, [], codes, refl}
use Rattle.pipe_steps.specs.Said.{agg_view, how_view}
use Rattle.pipe_print.specs.Items.{Fixed, Name, how_items, total_items}
use Rattle.pipe_print.proofs.Writing.{paired}
use Rattle.pipe_print.proofs.entry.TotalsEntry.write.Goals as goal

pub returns : goal.returns
returns c =
    paired c.name.result c.args.version c.args.out.now.items c.aggregate.new.out.items c.fixed.new.out.items c.name.new.out.items
    (Fixed (codes "as")) (how_items (how_view c.args.one.now.how)) (Name c.args.one.now.name ∷ []) (total_items (agg_view c.args.one.now))
    c.in_ok-aggregate.ensures c.in_ok-fixed.ensures c.name.ensures refl
