use Rattle.std.proofs.Common.{◌≡◌, take}
use Rattle.par_rows.specs.Hash.{values_hash}
use Rattle.par_rows.proofs.row.RowHashKey.hash32.Given as goal

abbrev pub invariant-loop-value : goal.invariant-loop-value
invariant-loop-value l = l.hash ≡ values_hash (take l.value-index l.self.values)
