use Rattle.std.proofs.Common.{◌≡◌, ◌∙◌, ap, ap₂, rules, false, pos, w64, FitsSigned, Ok}
use Rattle.std.specs.Int.{int_wrapping_div}
use Rattle.std.specs.Ordering.{int_eq}
use Rattle.std.proofs.lemmas.Int.{to_z-of_z}
use Rattle.pipe_eval.proofs.Numbers.{quotient-fine}
use Rattle.pipe_eval.proofs.amount.quotient.Goals as goal

pub returns-else-b-eq0 : goal.returns-else-b-eq0
returns-else-b-eq0 c =
    let other : int_eq c.args.b (pos 0) ≡ false = search rules in
    let fits : FitsSigned w64 c.wrapping_div.result = search rules in
    let same = ap₂ (int_wrapping_div w64) (to_z-of_z w64 c.args.a c.ranges.a) (to_z-of_z w64 c.args.b c.ranges.b) in
    ap Ok (to_z-of_z w64 c.wrapping_div.result fits ∙ c.wrapping_div.ensures ∙ same) ∙ quotient-fine c.args.a c.args.b c.ranges.a other
