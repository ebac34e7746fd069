use Rattle.std.proofs.Common.{◌≡◌, rules, Err}
use Rattle.pipe_run.proofs.Deciding.{answered, continued, stopped, lifted}
use Rattle.pipe_run.proofs.run.checked_text.Goals as goal

pub returns-in_err-text : goal.returns-in_err-text
returns-in_err-text g c =
    let e : c.from_residual.result ≡ Err c.in_err-text.field-0.0 = search rules in
    rw e (stopped _ _ _ _ _ (rw c.in_err-text.was at c.read_pipeline.ensures.answer))

pub returns-in_err-pipeline : goal.returns-in_err-pipeline
returns-in_err-pipeline g c =
    let e : c.from_residual-in_err-pipeline.result ≡ Err c.in_err-pipeline.field-0.0 = search rules in
    let text = rw c.in_ok-text.was at c.read_pipeline.ensures.answer in
    let plan = rw (c.in_err-pipeline.was, c.deref.ensures.value) at c.plan.ensures.decided in
    rw e (continued _ _ _ _ _ _ _ text (stopped _ _ _ _ _ (lifted _ _ _ plan)))

pub returns : goal.returns
returns g c =
    let text = rw c.in_ok-text.was at c.read_pipeline.ensures.answer in
    let plan = rw (c.in_ok-pipeline.was, c.deref.ensures.value) at c.plan.ensures.decided in
    continued _ _ _ _ _ _ _ text (continued _ _ _ _ _ _ _ (lifted _ _ _ plan) (lifted _ _ _ (answered _ _ c.in_ok-print.ensures.written)))
