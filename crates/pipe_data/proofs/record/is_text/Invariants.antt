use Rattle.std.proofs.Common.{◌≡◌, ◌-◌, drop}
use Rattle.std.specs.List.{list_all}
use Rattle.std.specs.Str.{is_utf8}
use Rattle.csv.specs.Records.{fields_of, field_count}
use Rattle.pipe_data.proofs.record.is_text.Given as goal

abbrev pub invariant-loop-field : goal.invariant-loop-field
invariant-loop-field l = list_all is_utf8 (fields_of l.fields) ≡ list_all is_utf8 (drop l.at (fields_of l.fields))

abbrev pub decreases-loop-field : goal.decreases-loop-field
decreases-loop-field l = field_count l.fields - l.at
