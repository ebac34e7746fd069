use Rattle.std.proofs.Common.{◌≡◌, ◌∙◌, ap, refl}
use Rattle.std.proofs.lemmas.Result.{err_from_is_err_and}
use Rattle.std.specs.Int.{int_max}
use Rattle.pipe_stages.specs.Rows.{pointed}
use Rattle.pipe_answers.specs.Texts.{number_or_none}
use Rattle.pipe_answers.proofs.Presents.{present_fine, present_stop, present_value}
use Rattle.pipe_answers.proofs.numbers.max.Goals as goal

pub value_of-requires : goal.value_of-requires
value_of-requires g c = λ k. ((refl, tt), (c.requires.small, rw c.new-source.ensures.list at c.in_ok-folded.ensures.answer))

pub returns-in_err-greatest : goal.returns-in_err-greatest
returns-in_err-greatest g c =
    let p = err_from_is_err_and c.from_residual-in_err-greatest.result c.from_residual-in_err-greatest.ensures.1 in
    rw (p.1, p.2) (present_stop _ _ c.in_ok-number.ensures (pointed c.args.rows.now) _ c.in_err-greatest.ensures.stop)

pub returns : goal.returns
returns g c = (
  present_fine _ _ c.in_ok-number.ensures (pointed c.args.rows.now) c.in_ok-greatest.ensures.fine,
  c.in_ok-number_or_none.ensures ∙ ap number_or_none (present_value _ _ c.in_ok-number.ensures (pointed c.args.rows.now) int_max c.in_ok-greatest.greatest c.in_ok-greatest.ensures.value),
  rw c.new-source.ensures.list at c.in_ok-folded.ensures.audit,
)
