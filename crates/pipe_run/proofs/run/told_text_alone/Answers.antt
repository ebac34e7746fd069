use Rattle.std.proofs.Common.{◌≡◌, ◌∙◌, ap, rules, Err}
use Rattle.pipe_program.specs.Plans.{plan as plan_of}
use Rattle.pipe_run.specs.Rests.{IsRunOf, Notes}
use Rattle.pipe_run.specs.Runs.{whole_text}
use Rattle.std.proofs.Common.{[], Ok, subst}
use Rattle.pipe_run.proofs.Staging.{all_ready, told_stopped, told_text}
use Rattle.par_task.specs.Manners.{alone}
use Rattle.pipe_run.proofs.run.told_text_alone.Goals as goal

pub run_stages_alone-requires-clause-ready : goal.run_stages_alone-requires-clause-ready
run_stages_alone-requires-clause-ready g c κs within = all_ready (plan_of c.args.pipeline.now) c.in_ok-rest.rest (c.text_laws.ensures.sound c.args.text.now (plan_of c.args.pipeline.now) c.requires.reads) c.requires.built c.in_ok-rest.ensures

pub returns-in_err-answer : goal.returns-in_err-answer
returns-in_err-answer g c =
    let e : c.from_residual-in_err-answer.result ≡ Err c.in_err-answer.field-0.0 = search rules in
    rw e (told_stopped (alone c.args.level) c.args.audit (plan_of c.args.pipeline.now) c.in_ok-rest.rest c.args.rows.items c.in_err-answer.field-0.0 c.in_ok-rest.ensures c.in_err-answer.ensures.stopped)

pub returns : goal.returns
returns g c =
    let told = subst (λ x. Notes x c.run_stages_alone.new.audits.items (λ told. IsRunOf (alone c.args.level) c.in_ok-rest.rest c.args.rows.items (Ok (c.in_ok-answer.answer.items, told)))) c.new-audits.ensures.items c.in_ok-answer.ensures.text in
    told_text (alone c.args.level) c.args.audit (plan_of c.args.pipeline.now) c.in_ok-rest.rest c.args.rows.items c.in_ok-answer.answer.items c.add_audits.new.answer.items c.run_stages_alone.new.audits.items c.in_ok-rest.ensures told
    (c.in_ok-add_audits.ensures ∙ ap (λ x. whole_text c.args.audit (c.in_ok-answer.answer.items, x)) c.deref.ensures.value)
