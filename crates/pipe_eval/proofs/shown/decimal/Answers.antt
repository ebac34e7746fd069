use Rattle.std.proofs.Common.{◌∙◌, ap, w64}
use Rattle.std.specs.Fmt.{signed_decimal}
use Rattle.std.proofs.lemmas.Int.{to_z-of_z}
use Rattle.std.proofs.lemmas.Result.{IfOk-weaker}
use Rattle.std.proofs.lemmas.Str.{chars-IsAscii}
use Rattle.pipe_eval.proofs.shown.decimal.Goals as goal

pub returns : goal.returns
returns c =
    let same = ap signed_decimal (to_z-of_z w64 c.args.number c.ranges.number) in
    IfOk-weaker c.from_text.result _ _ (λ w h. h ∙ chars-IsAscii c.format.result.now c.format.ensures.ascii ∙ c.format.ensures.text ∙ same) c.from_text.ensures
