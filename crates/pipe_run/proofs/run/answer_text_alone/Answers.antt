use Rattle.std.proofs.Common.{◌≡◌, rules, Err}
use Rattle.pipe_program.specs.Plans.{plan as plan_of}
use Rattle.pipe_run.proofs.Deciding.{continued, stopped, lifted}
use Rattle.pipe_run.proofs.Sourcing.{source_moves}
use Rattle.pipe_run.proofs.run.answer_text_alone.Goals as goal

pub returns-in_err-text : goal.returns-in_err-text
returns-in_err-text g c =
    let e : c.from_residual.result ≡ Err c.in_err-text.field-0.0 = search rules in
    rw e (stopped _ _ _ _ _ (rw c.in_err-text.was at c.read_pipeline.ensures.answer))

pub returns-in_err-pipeline : goal.returns-in_err-pipeline
returns-in_err-pipeline g c =
    let e : c.from_residual-in_err-pipeline.result ≡ Err c.in_err-pipeline.field-0.0 = search rules in
    let text = rw c.in_ok-text.was at c.read_pipeline.ensures.answer in
    let plan = rw (c.in_err-pipeline.was, c.deref.ensures.value) at c.plan.ensures.decided in
    rw e (continued _ _ _ _ _ _ _ text (stopped _ _ _ _ _ (lifted _ _ _ plan)))

pub returns-in_err-check_given : goal.returns-in_err-check_given
returns-in_err-check_given g c =
    let e : c.from_residual-in_err-check_given.result ≡ Err c.in_err-check_given.field-0.0 = search rules in
    let text = rw c.in_ok-text.was at c.read_pipeline.ensures.answer in
    let plan = rw (c.in_ok-pipeline.was, c.deref.ensures.value) at c.plan.ensures.decided in
    let given = rw (c.in_err-check_given.was, c.deref-2.ensures.value) at c.check_given.ensures in
    rw e (continued _ _ _ _ _ _ _ text (continued _ _ _ _ _ _ _ (lifted _ _ _ plan) (stopped _ _ _ _ _ (lifted _ _ _ given))))

pub returns-in_err-check_built : goal.returns-in_err-check_built
returns-in_err-check_built g c =
    let e : c.from_residual-in_err-check_built.result ≡ Err c.in_err-check_built.field-0.0 = search rules in
    let text = rw c.in_ok-text.was at c.read_pipeline.ensures.answer in
    let plan = rw (c.in_ok-pipeline.was, c.deref.ensures.value) at c.plan.ensures.decided in
    let given = rw (c.in_ok-check_given.was, c.deref-2.ensures.value) at c.check_given.ensures in
    let built = rw (c.in_err-check_built.was, c.deref-3.ensures.value) at c.check_built.ensures.ruled in
    rw e (continued _ _ _ _ _ _ _ text (continued _ _ _ _ _ _ _ (lifted _ _ _ plan) (continued _ _ _ _ _ _ _ (lifted _ _ _ given) (stopped _ _ _ _ _ (lifted _ _ _ built)))))

pub read_source-requires-clause-moves : goal.read_source-requires-clause-moves
read_source-requires-clause-moves g c = source_moves _ (c.text_laws.ensures.sound c.deref.result.now (plan_of c.in_ok-pipeline.pipeline) c.in_ok-pipeline.ensures.reads).source

pub returns-in_err-rows : goal.returns-in_err-rows
returns-in_err-rows g c =
    let e : c.from_residual-in_err-rows.result ≡ Err c.in_err-rows.field-0.0 = search rules in
    let text = rw c.in_ok-text.was at c.read_pipeline.ensures.answer in
    let plan = rw (c.in_ok-pipeline.was, c.deref.ensures.value) at c.plan.ensures.decided in
    let given = rw (c.in_ok-check_given.was, c.deref-2.ensures.value) at c.check_given.ensures in
    let built = rw (c.in_ok-check_built.was, c.deref-3.ensures.value) at c.check_built.ensures.ruled in
    let rows = rw c.in_err-rows.was at c.read_source.ensures.answer in
    rw e (continued _ _ _ _ _ _ _ text (continued _ _ _ _ _ _ _ (lifted _ _ _ plan) (continued _ _ _ _ _ _ _ (lifted _ _ _ given) (continued _ _ _ _ _ _ _ (lifted _ _ _ built) (stopped _ _ _ _ _ rows)))))

pub returns : goal.returns
returns g c =
    let text = rw c.in_ok-text.was at c.read_pipeline.ensures.answer in
    let plan = rw (c.in_ok-pipeline.was, c.deref.ensures.value) at c.plan.ensures.decided in
    let given = rw (c.in_ok-check_given.was, c.deref-2.ensures.value) at c.check_given.ensures in
    let built = rw (c.in_ok-check_built.was, c.deref-3.ensures.value) at c.check_built.ensures.ruled in
    let rows = rw c.in_ok-rows.was at c.read_source.ensures.answer in
    continued _ _ _ _ _ _ _ text (continued _ _ _ _ _ _ _ (lifted _ _ _ plan) (continued _ _ _ _ _ _ _ (lifted _ _ _ given) (continued _ _ _ _ _ _ _ (lifted _ _ _ built) (continued _ _ _ _ _ _ _ rows (lifted _ _ _ c.told_text_alone.ensures)))))
