use Rattle.std.proofs.Common.{◌≡◌, ◌+◌, length, drop}
use Rattle.csv.specs.Records.{fields_of}
use Rattle.pipe_data.specs.Data.{values_of}
use Rattle.pipe_data.proofs.Walk.{values_then}
use Rattle.pipe_data.proofs.record.read_values.Given as goal

abbrev pub invariant-loop-column : goal.invariant-loop-column
invariant-loop-column l = (l.at + length l.rest ≡ length (fields_of l.fields)) × (values_of l.columns (fields_of l.fields) ≡ values_then l.values (values_of l.rest (drop l.at (fields_of l.fields))))

abbrev pub decreases-loop-column : goal.decreases-loop-column
decreases-loop-column l = length l.rest
