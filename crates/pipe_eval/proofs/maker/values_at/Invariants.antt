use Rattle.std.proofs.Common.{◌≡◌, ◌++◌, map, drop, Ok}
use Rattle.pipe_eval.specs.Answers.{◌>>=◌, in_order}
use Rattle.pipe_eval.specs.Bound.{cell_at}
use Rattle.pipe_eval.proofs.maker.values_at.Given as goal

abbrev pub invariant-loop-cell : goal.invariant-loop-cell
invariant-loop-cell l = in_order (map cell_at l.fn.cells) l.fn.row ≡ (in_order (map cell_at (drop l.cell-index l.cells)) l.fn.row >>= λ ys. Ok (l.values ++ ys))
