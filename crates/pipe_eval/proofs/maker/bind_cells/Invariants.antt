use Rattle.std.proofs.Common.{◌≡◌, map, take}
use Rattle.pipe_steps.specs.Said.{named_view}
use Rattle.pipe_eval.specs.Answers.{kept_value, trees}
use Rattle.pipe_eval.specs.Bound.{cell_at}
use Rattle.pipe_eval.proofs.maker.bind_cells.Given as goal

abbrev pub invariant-loop-named : goal.invariant-loop-named
invariant-loop-named l = map cell_at l.cells.items ≡ map (kept_value l.columns) (trees (map named_view (take l.named-index l.list)))
