use Rattle.std.proofs.Common.{◌≡◌, ◌∙◌, sym, rules, arith, Some}
use Rattle.csv.specs.Records.{field_at, fields_of}
use Rattle.pipe_data.proofs.Walk.{field_taken, no_field, values_more}
use Rattle.pipe_data.proofs.record.read_values.Goals as goal

pub returns-in_default-get : goal.returns-in_default-get
returns-in_default-get c =
    let none = no_field (fields_of c.args.fields.now) c.loop-column.at (sym c.in_default-get.ensures.value) in
    let i = rw none at c.loop-column.invariant.1 in
    search (rules, i)

pub returns-in_default-2 : goal.returns-in_default-2
returns-in_default-2 c =
    let all = fields_of c.args.fields.now in
    let at : field_at all c.loop-column.at ≡ Some c.in-Some-get.field.now = sym c.in-Some-get.ensures.value in
    let i = rw (field_taken all c.loop-column.at c.in-Some-get.field.now at) at c.loop-column.invariant.1 in
    search (rules, i)

pub loop-column-preserved : goal.loop-column-preserved
loop-column-preserved c =
    let all = fields_of c.args.fields.now in
    let at : field_at all c.loop-column.at ≡ Some c.in-Some-get.field.now = sym c.in-Some-get.ensures.value in
    let i = rw (field_taken all c.loop-column.at c.in-Some-get.field.now at) at c.loop-column.invariant.1 in
    (search (rules, arith), i ∙ search (rules, values_more))
