use Rattle.std.proofs.Common.{◌≡◌, ◌≤◌, length, drop}
use Rattle.csv.specs.Records.{fields_of}
use Rattle.pipe_data.specs.Data.{are_names}
use Rattle.pipe_data.proofs.record.is_header.Given as goal

abbrev pub invariant-loop-column : goal.invariant-loop-column
invariant-loop-column l = (l.at ≤ length (fields_of l.fields)) × (are_names l.columns (fields_of l.fields) ≡ are_names l.rest (drop l.at (fields_of l.fields)))

abbrev pub decreases-loop-column : goal.decreases-loop-column
decreases-loop-column l = length l.rest
