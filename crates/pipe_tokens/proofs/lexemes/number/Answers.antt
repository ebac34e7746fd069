use Rattle.std.proofs.Common.{◌≡◌, ◌+◌, ◌-◌, ◌*◌, ◌∙◌, ap, refl, min, ℕ, suc, slice_index_or, arith}
use Rattle.pipe_tokens.specs.Meaning.{capped, value_after}
use Rattle.pipe_tokens.proofs.Digits.{number_more, number_done}
use Rattle.pipe_tokens.proofs.lexemes.number.Goals as goal

pub loop-c-init : goal.loop-c-init
loop-c-init c = (omega arith, refl)

pub loop-c-preserved : goal.loop-c-preserved
loop-c-preserved c =
    let z : c.loop-c.c-index + 1 ≡ suc c.loop-c.c-index = omega arith in
    let step : c.saturating_add-n.result ≡ min (min (c.loop-c.n * 10) 18446744073709551615 + (slice_index_or c.args.digits.now c.loop-c.c-index 0 - 48)) 18446744073709551615 =
    c.saturating_add-n.ensures ∙ ap (λ (x : ℕ). min (x + c.from.result) 18446744073709551615) c.saturating_mul.ensures ∙ ap (λ (x : ℕ). min (min (c.loop-c.n * 10) 18446744073709551615 + x) 18446744073709551615) (c.from.ensures ∙ c.saturating_sub.ensures) in (
      omega (arith, c.saturating_add-n.type_inv),
      rw (z, step) (number_more c.loop-c.n c.loop-c.c-index c.args.digits.now (capped (value_after 0 c.args.digits.now)) (omega arith) c.loop-c.invariant.1),
    )

pub returns : goal.returns
returns c = number_done c.loop-c.n c.loop-c.c-index c.args.digits.now (capped (value_after 0 c.args.digits.now)) c.loop-c-test.false c.loop-c.invariant.0 c.loop-c.invariant.1
