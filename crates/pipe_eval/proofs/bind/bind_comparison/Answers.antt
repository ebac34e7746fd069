use Rattle.pipe_expr.specs.Grammar.{view}
use Rattle.pipe_eval.proofs.Binding.{numbers_claim, texts_claim}
use Rattle.pipe_eval.proofs.bind.bind_comparison.Goals as goal

pub returns-in_ok-right-in-Some-Number : goal.returns-in_ok-right-in-Some-Number
returns-in_ok-right-in-Some-Number c =
    numbers_claim c.args.columns.now c.args.op (view c.args.a.now) (view c.args.b.now) c.comparison-how.result c.in_ok-left-in-Some-Number.left c.in_ok-right-in-Some-Number.right c.comparison-how.ensures c.in_ok-left-in-Some-Number.ensures c.in_ok-right-in-Some-Number.ensures

pub returns-in_ok-right-in_default : goal.returns-in_ok-right-in_default
returns-in_ok-right-in_default c =
    texts_claim c.args.columns.now c.args.op (view c.args.a.now) (view c.args.b.now) c.comparison-how.result c.in_ok-left-in_default.left c.in_ok-right-in_default.right c.comparison-how.ensures c.in_ok-left-in_default.ensures c.in_ok-right-in_default.ensures
