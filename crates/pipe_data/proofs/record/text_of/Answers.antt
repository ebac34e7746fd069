use Rattle.std.proofs.Common.{◌≡◌, ◌∙◌, ap, refl, inl, inr, true, Some}
use Rattle.std.proofs.lemmas.Bool.{cases_Bool}
use Rattle.std.proofs.lemmas.Str.{IsUtf8-from_is_utf8, is_utf8-from_IsUtf8}
use Rattle.std.specs.Str.{chars, is_utf8}
use Rattle.pipe_data.proofs.record.text_of.Goals as goal

pub returns-in_ok-from_text-in-Ok : goal.returns-in_ok-from_text-in-Ok
returns-in_ok-from_text-in-Ok c =
    let valid : is_utf8 c.args.field.now ≡ true = is_utf8-from_IsUtf8 c.args.field.now c.in-Ok.ensures.cases.1 in
    rw valid (ap Some (c.in_ok-from_text-in-Ok.ensures ∙ ap chars c.in-Ok.ensures.cases.0))

pub returns-in-Err : goal.returns-in-Err
returns-in-Err c = elim (cases_Bool (is_utf8 c.args.field.now)) [
  | inl e ↦ absurd (c.in-Err.ensures.cases.0 (IsUtf8-from_is_utf8 c.args.field.now e))
  | inr e ↦ rw e refl
]
