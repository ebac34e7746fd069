use Rattle.std.proofs.Common.{◌≡◌, ◌∙◌, sym, ap, codes}
use Rattle.pipe_expr.specs.declared.expr.Expr.{Expr}
use Rattle.pipe_expr.specs.Grammar.{Length, Valued, Inside, Joined, view}
use Rattle.pipe_text.specs.declared.lexeme.Symbol.TheVariants.{Close, Open}
use Rattle.pipe_print.specs.Items.{Fixed, Mark, operator, tree_items}
use Rattle.pipe_print.proofs.Writing.{around, called, paired}
use Rattle.pipe_print.proofs.item.+value.Goals as goal

pub returns-in_ok-value-in-Len : goal.returns-in_ok-value-in-Len
returns-in_ok-value-in-Len t c =
    called c.mark-in-Len.result c.args.version c.args.out.now.items c.fixed.new.out.items c.mark.new.out.items c.value.new.out.items c.mark-in-Len.new.out.items
    (Fixed (codes "len")) (tree_items (view c.deref.result.now)) (tree_items (view c.args.e.now))
    c.in_ok-fixed-in-Len.ensures c.in_ok-mark-in-Len.ensures c.in_ok-value-in-Len.ensures c.mark-in-Len.ensures
    (ap (λ (e : Expr). tree_items (view e)) c.in-Len.is ∙ ap (λ (e : Expr). tree_items (Length (view e))) (sym c.deref.ensures))

pub returns-in_ok-value-in-ToInt : goal.returns-in_ok-value-in-ToInt
returns-in_ok-value-in-ToInt t c =
    called c.mark-in-ToInt-2.result c.args.version c.args.out.now.items c.fixed-in-ToInt.new.out.items c.mark-in-ToInt.new.out.items c.value-in-ToInt.new.out.items c.mark-in-ToInt-2.new.out.items
    (Fixed (codes "toInt")) (tree_items (view c.deref-in-ToInt.result.now)) (tree_items (view c.args.e.now))
    c.in_ok-fixed-in-ToInt.ensures c.in_ok-mark-in-ToInt.ensures c.in_ok-value-in-ToInt.ensures c.mark-in-ToInt-2.ensures
    (ap (λ (e : Expr). tree_items (view e)) c.in-ToInt.is ∙ ap (λ (e : Expr). tree_items (Valued (view e))) (sym c.deref-in-ToInt.ensures))

pub returns-in_ok-value-in-Group : goal.returns-in_ok-value-in-Group
returns-in_ok-value-in-Group t c =
    around c.mark-in-Group-2.result c.args.version c.args.out.now.items c.mark-in-Group.new.out.items c.value-in-Group.new.out.items c.mark-in-Group-2.new.out.items
    (Mark Open) (Mark Close) (tree_items (view c.deref-in-Group.result.now)) (tree_items (view c.args.e.now))
    c.in_ok-mark-in-Group.ensures c.in_ok-value-in-Group.ensures c.mark-in-Group-2.ensures
    (ap (λ (e : Expr). tree_items (view e)) c.in-Group.is ∙ ap (λ (e : Expr). tree_items (Inside (view e))) (sym c.deref-in-Group.ensures))

pub returns-in_ok-operator-in-Pair : goal.returns-in_ok-operator-in-Pair
returns-in_ok-operator-in-Pair t c =
    paired c.value-in-Pair-2.result c.args.version c.args.out.now.items c.value-in-Pair.new.out.items c.operator.new.out.items c.value-in-Pair-2.new.out.items
    (operator c.in-Pair.op) (tree_items (view c.deref-in-Pair.result.now)) (tree_items (view c.deref-in-Pair-2.result.now)) (tree_items (view c.args.e.now))
    c.in_ok-value-in-Pair.ensures c.in_ok-operator-in-Pair.ensures c.value-in-Pair-2.ensures
    (ap (λ (e : Expr). tree_items (view e)) c.in-Pair.is
    ∙ ap (λ (e : Expr). tree_items (Joined c.in-Pair.op (view e) (view c.in-Pair.b.value))) (sym c.deref-in-Pair.ensures)
    ∙ ap (λ (e : Expr). tree_items (Joined c.in-Pair.op (view c.deref-in-Pair.result.now) (view e))) (sym c.deref-in-Pair-2.ensures))
