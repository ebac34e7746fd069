use Rattle.std.proofs.Common.{◌≡◌, map, take}
use Rattle.pipe_steps.specs.Said.{named_view}
use Rattle.pipe_checks.specs.Columns.{made}
use Rattle.pipe_checks.proofs.columns.made_columns.Given as goal

abbrev pub invariant-loop-field : goal.invariant-loop-field
invariant-loop-field l = l.all.items ≡ map (made l.columns) (map named_view (take l.field-index l.fields))
