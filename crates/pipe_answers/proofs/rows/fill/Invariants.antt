use Rattle.std.proofs.Common.{◌≡◌, [], map, take}
use Rattle.csv.specs.Records.{fields_of, partial_of}
use Rattle.pipe_answers.specs.Texts.{value_text}
use Rattle.pipe_answers.proofs.rows.fill.Given as goal

abbrev pub invariant-loop-value : goal.invariant-loop-value
invariant-loop-value l = (fields_of l.fields ≡ map value_text (take l.value-index l.row.values)) × (partial_of l.fields ≡ []) × (l.value-items ≡ l.row.values)
