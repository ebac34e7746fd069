use Rattle.std.proofs.Common.{◌≡◌, ◌++◌, map, take}
use Rattle.pipe_steps.specs.Said.{agg_view}
use Rattle.pipe_checks.specs.Columns.{total_column}
use Rattle.pipe_checks.proofs.columns.total_columns.Given as goal

abbrev pub invariant-loop-agg : goal.invariant-loop-agg
invariant-loop-agg l = l.all.items ≡ l.initial.all.items ++ map total_column (map agg_view (take l.agg-index l.aggs))
