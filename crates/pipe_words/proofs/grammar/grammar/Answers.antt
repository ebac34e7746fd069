use Rattle.std.proofs.Common.{ap₂, ◌∙◌}
use Rattle.std.proofs.lemmas.Result.{IfOk-weaker}
use Rattle.clap.specs.Words.{with_rule}
use Rattle.pipe_words.proofs.grammar.grammar.Goals as goal

pub returns : goal.returns
returns c =
    let words = c.in_ok-with_words.ensures.shape c.words.ensures.local ∙ ap₂ with_rule c.bare.ensures c.words.ensures.rule in
    let workers = c.in_ok-with_workers.ensures.shape c.value.ensures.local ∙ ap₂ with_rule words c.value.ensures.rule in
    let level = c.in_ok-with_level.ensures.shape c.value-2.ensures.local ∙ ap₂ with_rule workers c.value-2.ensures.rule in
    IfOk-weaker c.arg-4.result _ _ (λ r h. h.shape c.flag.ensures.local ∙ ap₂ with_rule level c.flag.ensures.rule) c.arg-4.ensures
