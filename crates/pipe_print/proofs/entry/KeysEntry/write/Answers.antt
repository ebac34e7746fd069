use Rattle.std.proofs.Common.{◌∷◌, [], codes, refl}
use Rattle.pipe_expr.specs.Grammar.{view}
use Rattle.pipe_steps.specs.Said.{named_view}
use Rattle.pipe_print.specs.Items.{Fixed, Name, key_items, tree_items}
use Rattle.pipe_print.proofs.Writing.{paired}
use Rattle.pipe_print.proofs.entry.KeysEntry.write.Goals as goal

pub returns : goal.returns
returns c =
    paired c.name.result c.args.version c.args.out.now.items c.value.new.out.items c.fixed.new.out.items c.name.new.out.items
    (Fixed (codes "as")) (tree_items (view c.args.one.now.of)) (Name c.args.one.now.name ∷ []) (key_items (named_view c.args.one.now))
    c.in_ok-value.ensures c.in_ok-fixed.ensures c.name.ensures refl
