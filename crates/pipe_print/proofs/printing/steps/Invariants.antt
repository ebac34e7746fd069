use Rattle.std.proofs.Common.{◌≡◌, ◌++◌, map, take}
use Rattle.std.specs.List.{flat_map}
use Rattle.pipe_steps.specs.Said.{Goes, middle_view}
use Rattle.pipe_print.specs.Lines.{ended}
use Rattle.pipe_print.proofs.printing.steps.Given as goal

abbrev pub invariant-loop-one : goal.invariant-loop-one
invariant-loop-one l = l.out.items ≡ l.initial.out.items ++ flat_map (ended l.version) (map Goes (map middle_view (take l.one-index l.all)))
