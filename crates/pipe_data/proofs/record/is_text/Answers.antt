use Rattle.std.proofs.Common.{◌≡◌, ◌∙◌, sym, ap, rules, arith, Some}
use Rattle.std.specs.List.{list_all}
use Rattle.std.specs.Str.{is_utf8}
use Rattle.csv.specs.Records.{field_at, fields_of}
use Rattle.pipe_data.proofs.Walk.{field_taken, no_field}
use Rattle.pipe_data.proofs.record.is_text.Goals as goal

pub returns-then-not-is_valid : goal.returns-then-not-is_valid
returns-then-not-is_valid c =
    let all = fields_of c.args.fields.now in
    let at : field_at all c.loop-field.at ≡ Some c.in-Some.field.now = sym c.in-Some.ensures.value in
    let taken = field_taken all c.loop-field.at c.in-Some.field.now at in
    let i = rw taken at c.loop-field.invariant in
    search (rules, i)

pub loop-field-smaller : goal.loop-field-smaller
loop-field-smaller c = let less = c.in-Some.ensures.place.0 in omega (arith, less)

pub loop-field-preserved : goal.loop-field-preserved
loop-field-preserved c =
    let all = fields_of c.args.fields.now in
    let at : field_at all c.loop-field.at ≡ Some c.in-Some.field.now = sym c.in-Some.ensures.value in
    let taken = field_taken all c.loop-field.at c.in-Some.field.now at in
    let i = rw taken at c.loop-field.invariant in
    search (rules, i)

pub returns : goal.returns
returns c =
    let none = no_field (fields_of c.args.fields.now) c.loop-field.at (sym c.in_default.ensures.value) in
    sym (c.loop-field.invariant ∙ ap (list_all is_utf8) none)
