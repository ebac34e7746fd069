use Rattle.std.proofs.Common.{◌≡◌, map, take}
use Rattle.pipe_steps.specs.Said.{middle_view}
use Rattle.pipe_program.specs.Plans.{columns_on}
use Rattle.pipe_program.proofs.schema.columns_behind.Given as goal

abbrev pub invariant-loop-step : goal.invariant-loop-step
invariant-loop-step l = l.columns.items ≡ columns_on l.fn.before.items (map middle_view (take l.step-index l.steps))
