use Rattle.std.proofs.lemmas.Result.{IfOk-weaker}
use Rattle.pipe_expr.specs.Grammar.{view}
use Rattle.pipe_eval.proofs.Binding.{column_amount, reckoned_amount}
use Rattle.pipe_eval.proofs.bind.+bind_amount.Goals as goal

pub returns-in-Column : goal.returns-in-Column
returns-in-Column t c = rw c.in-Column.is (column_amount _ _ _ c.place_named.ensures.place (rw c.in-Column.is at c.requires))

pub returns-in_ok-right-in-Pair : goal.returns-in_ok-right-in-Pair
returns-in_ok-right-in-Pair t c =
    let left = rw c.deref-in-Pair.ensures at c.in_ok-left-in-Pair.ensures in
    let right = rw c.deref-in-Pair-2.ensures at c.in_ok-right-in-Pair.ensures in
    let a = view c.in-Pair.a.value in
    let b = view c.in-Pair.b.value in
    IfOk-weaker c.reckoned.result _ _ (λ m h. rw c.in-Pair.is (reckoned_amount c.args.columns.now c.in-Pair.op a b c.arithmetic.result c.in_ok-left-in-Pair.left c.in_ok-right-in-Pair.right m c.arithmetic.ensures left right h)) c.reckoned.ensures
