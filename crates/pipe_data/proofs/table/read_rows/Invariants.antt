use Rattle.std.proofs.Common.{◌≡◌}
use Rattle.pipe_data.specs.Data.{rows_from}
use Rattle.pipe_data.specs.Left.{IsPlain, left}
use Rattle.pipe_data.proofs.Walk.{rows_then}
use Rattle.pipe_data.proofs.table.read_rows.Given as goal

abbrev pub invariant-loop-number : goal.invariant-loop-number
invariant-loop-number l = IsPlain l.reader × (rows_from l.columns 1 (left l.fn.reader) ≡ rows_then l.rows.items (rows_from l.columns l.number (left l.reader)))
