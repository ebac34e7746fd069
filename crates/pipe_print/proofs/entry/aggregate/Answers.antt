use Rattle.std.proofs.Common.{ap, codes}
use Rattle.pipe_expr.specs.Grammar.{view}
use Rattle.pipe_steps.specs.declared.step.Aggregate.{Aggregate}
use Rattle.pipe_steps.specs.Said.{how_view}
use Rattle.pipe_print.specs.Items.{Fixed, Quote, how_items, tree_items}
use Rattle.pipe_print.proofs.Writing.{around}
use Rattle.pipe_print.proofs.entry.aggregate.Goals as goal

pub returns-in_ok-value-in-MkString : goal.returns-in_ok-value-in-MkString
returns-in_ok-value-in-MkString c =
    around c.quote.result c.args.version c.args.out.now.items c.fixed-in-MkString.new.out.items c.value-in-MkString.new.out.items c.quote.new.out.items
    (Fixed (codes "mkString")) (Quote c.in-MkString.sep) (tree_items (view c.in-MkString.of)) (how_items (how_view c.args.how.now))
    c.in_ok-fixed-in-MkString.ensures c.in_ok-value-in-MkString.ensures c.quote.ensures (ap (λ (h : Aggregate). how_items (how_view h)) c.in-MkString.is)
