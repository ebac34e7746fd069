use Rattle.std.proofs.Common.{◌≡◌, [], map, take, encode_utf8_all}
use Rattle.csv.specs.Records.{fields_of, partial_of}
use Rattle.pipe_answers.proofs.rows.fill_names.Given as goal

abbrev pub invariant-loop-column : goal.invariant-loop-column
invariant-loop-column l = (fields_of l.fields ≡ map (λ c. encode_utf8_all c.name) (take l.column-index l.columns)) × (partial_of l.fields ≡ [])
