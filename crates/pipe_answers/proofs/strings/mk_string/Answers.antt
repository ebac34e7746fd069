use Rattle.std.proofs.Common.{◌≡◌, ◌∙◌, ℕ, List, ap, encode_utf8_all, refl}
use Rattle.std.proofs.lemmas.Result.{err_from_is_err_and}
use Rattle.pipe_stages.specs.Rows.{pointed}
use Rattle.pipe_answers.specs.Texts.{line}
use Rattle.pipe_answers.proofs.Presents.{present_fine, present_stop, present_text}
use Rattle.pipe_answers.proofs.strings.mk_string.Goals as goal

pub value_of-requires : goal.value_of-requires
value_of-requires g c = λ k. ((refl, tt), (c.requires.small, rw c.new-source.ensures.list at c.in_ok-folded.ensures.answer))

pub returns-in_err-joined : goal.returns-in_err-joined
returns-in_err-joined g c =
    let p = err_from_is_err_and c.from_residual-in_err-joined.result c.from_residual-in_err-joined.ensures.1 in
    rw (p.1, p.2) (present_stop _ _ c.in_ok-texts.ensures (pointed c.args.rows.now) _ c.in_err-joined.ensures.stop)

pub returns : goal.returns
returns g c =
    let value = rw c.in_ok-copy.ensures at c.in_ok-joined.ensures.value in (
      present_fine _ _ c.in_ok-texts.ensures (pointed c.args.rows.now) c.in_ok-joined.ensures.fine,
      c.in_ok-joined_text.ensures
          ∙ ap (λ (t : List ℕ). line (encode_utf8_all t)) (present_text _ _ c.in_ok-texts.ensures (pointed c.args.rows.now) c.args.sep.now c.in_ok-joined.joined value),
      rw c.new-source.ensures.list at c.in_ok-folded.ensures.audit,
    )
