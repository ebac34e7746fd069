use Rattle.std.proofs.Common.{◌≡◌, ◌∙◌, sym, ap, rules, arith, drop, [], Some}
use Rattle.csv.specs.Records.{field_at, fields_of}
use Rattle.pipe_data.specs.Data.{are_names}
use Rattle.pipe_data.proofs.Walk.{field_taken, field_within, names_end, no_columns, no_field}
use Rattle.pipe_data.proofs.record.is_header.Goals as goal

pub returns-in_default-get : goal.returns-in_default-get
returns-in_default-get c =
    let none = no_field (fields_of c.args.fields.now) c.loop-column.at (sym c.in_default-get.ensures.value) in
    let i = rw none at c.loop-column.invariant.1 in
    search (rules, i)

pub returns-then-ne : goal.returns-then-ne
returns-then-ne c =
    let all = fields_of c.args.fields.now in
    let at : field_at all c.loop-column.at ≡ Some c.in-Some-get.field.now = sym c.in-Some-get.ensures.value in
    let i = rw (field_taken all c.loop-column.at c.in-Some-get.field.now at) at c.loop-column.invariant.1 in
    search (rules, i)

pub loop-column-preserved : goal.loop-column-preserved
loop-column-preserved c =
    let all = fields_of c.args.fields.now in
    let at : field_at all c.loop-column.at ≡ Some c.in-Some-get.field.now = sym c.in-Some-get.ensures.value in
    let less = field_within all c.loop-column.at c.in-Some-get.field.now at in
    let i = rw (field_taken all c.loop-column.at c.in-Some-get.field.now at) at c.loop-column.invariant.1 in
    (omega (arith, less), search (rules, i))

pub returns : goal.returns
returns c =
    let all = fields_of c.args.fields.now in
    let none : c.loop-column.rest.now ≡ [] = no_columns c.loop-column.rest.now (search rules) in
    let i = c.loop-column.invariant in
    let end = names_end all c.loop-column.at i.0 in
    rw c.len.ensures (end ∙ sym (i.1 ∙ ap (λ cs. are_names cs (drop c.loop-column.at all)) none))
