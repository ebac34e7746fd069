use Rattle.std.proofs.Common.{◌≡◌, ◌++◌, map, take}
use Rattle.pipe_answers.specs.Texts.{rows_text}
use Rattle.pipe_answers.specs.Writers.{IsBetween, all_written}
use Rattle.pipe_answers.proofs.rows.with_rows.Given as goal

abbrev pub invariant-loop-row : goal.invariant-loop-row
invariant-loop-row l = IsBetween l.writer × (all_written (λ w. w.items) l.writer ≡ l.fn.text.items ++ rows_text (map (λ r. r.now) (take l.row-index l.rows)))
