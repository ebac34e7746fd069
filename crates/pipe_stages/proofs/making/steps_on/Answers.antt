use Rattle.std.proofs.Common.{rules, ◌≡◌, ◌∙◌, pos, ◌+ℤ◌, ◌*ℤ◌}
use Rattle.std.specs.Int.{w64, int_wrap}
use Rattle.std.proofs.lemmas.Int.{wraps, wrapping_add-bits, int_wrap_fits, int_wrap-add_right}
use Rattle.pipe_stages.proofs.making.steps_on.Goals as goal

pub returns : goal.returns
returns c fit =
    let a = c.args.a in
    let e : _ ≡ int_wrap w64 (a +ℤ int_wrap w64 (c.from.result *ℤ c.args.c)) = search (rules, wraps, wrapping_add-bits w64) in
    let s : c.from.result ≡ pos c.args.k = c.from.ensures in
    e ∙ int_wrap-add_right w64 _ _ ∙ rw s (int_wrap_fits w64 _ fit)
