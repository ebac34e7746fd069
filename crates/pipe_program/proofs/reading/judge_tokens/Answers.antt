use Rattle.std.proofs.Common.{◌≡◌, ◌∙◌, ap, ℕ}
use Rattle.pipe_text.specs.Token.{views}
use Rattle.pipe_tokens.specs.Meaning.{all_meant}
use Rattle.pipe_checks.specs.Places.{spot}
use Rattle.pipe_program.proofs.reading.judge_tokens.Goals as goal

pub returns-in-Ok-clause-accepted : goal.returns-in-Ok-clause-accepted
returns-in-Ok-clause-accepted c =
    let same : c.deref.result.now ≡ all_meant (spot c.args.place.now).version (views c.args.lexemes.now) = c.deref.ensures.value ∙ c.in-Ok.ensures ∙ ap (λ (v : ℕ). all_meant v (views c.args.lexemes.now)) c.version.ensures in
    rw same at c.judge_line.ensures.accepted

pub returns-in-Ok-clause-refused : goal.returns-in-Ok-clause-refused
returns-in-Ok-clause-refused c =
    let same : c.deref.result.now ≡ all_meant (spot c.args.place.now).version (views c.args.lexemes.now) = c.deref.ensures.value ∙ c.in-Ok.ensures ∙ ap (λ (v : ℕ). all_meant v (views c.args.lexemes.now)) c.version.ensures in
    rw same at c.judge_line.ensures.refused
