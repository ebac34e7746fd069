use Rattle.std.proofs.Common.{◌≡◌, take}
use Rattle.par_rows.proofs.row.RowKeep.copy.Given as goal

abbrev pub invariant-loop-value : goal.invariant-loop-value
invariant-loop-value l = l.values ≡ take l.value-index l.source
