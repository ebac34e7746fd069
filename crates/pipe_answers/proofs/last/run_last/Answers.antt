use Rattle.pipe_steps.specs.Said.{last_view}
use Rattle.pipe_stages.specs.Rows.{pointed}
use Rattle.pipe_answers.specs.Lasts.{IsAnswerText, IsLastAudit, last_fault}
use Rattle.pipe_answers.proofs.Given.{given_audit, given_fault, given_stop, given_text}
use Rattle.par_pool.specs.Plans.{planned}
use Rattle.pipe_answers.proofs.last.run_last.Goals as goal

pub returns : goal.returns
returns g c =
    let cs = c.args.schema.now.columns.items in
    let step = last_view c.args.last.now in
    let rows = pointed c.args.rows.now in
    let fault = last_fault cs step rows in
    let is_text = IsAnswerText cs step rows in
    let is_audit = IsLastAudit cs step rows (planned c.args.plan.now.workers c.args.plan.now.level) in
    record {
      fault = given_fault fault is_text is_audit c.call.result c.call.ensures;
      answer = given_text fault is_text is_audit c.call.result c.call.ensures;
      audit = given_audit fault is_text is_audit c.call.result c.call.ensures;
      stop = given_stop fault is_text is_audit c.call.result c.call.ensures;
    }
