use Rattle.std.proofs.Common.{◌≡◌, ◌∙◌, sym, rules, Some}
use Rattle.csv.specs.Records.{fields_of}
use Rattle.pipe_data.specs.Data.{values_of}
use Rattle.pipe_data.proofs.Valid.{valid_fields}
use Rattle.pipe_data.proofs.record.read_row.Goals as goal

pub returns-in-Some-clause-row : goal.returns-in-Some-clause-row
returns-in-Some-clause-row c =
    let e : values_of c.args.columns.now (fields_of c.args.fields.now) ≡ Some c.in-Some.values = sym c.in_ok-values.ensures ∙ c.in-Some.is in
    let valid = valid_fields c.args.columns.now (fields_of c.args.fields.now) c.in-Some.values e in
    search (rules, e, valid)
