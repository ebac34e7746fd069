use Rattle.std.proofs.Common.{◌≤◌, subst, sym}
use Rattle.std.proofs.lemmas.List.{length-map}
use Rattle.pipe_steps.specs.Said.{middle_view}
use Rattle.pipe_stages.specs.Audits.{IsAuditOf}
use Rattle.pipe_stages.specs.Rows.{pointed}
use Rattle.pipe_stages.specs.Stages.{after}
use Rattle.pipe_stages.proofs.Few.{after_few, given_audit, given_few, given_rows, given_stop}
use Rattle.par_pool.specs.Plans.{planned}
use Rattle.pipe_stages.proofs.step.run_step.Goals as goal

pub returns : goal.returns
returns g c =
    let cs = c.args.schema.now.columns.items in
    let m = middle_view c.args.step.now in
    let rows = pointed c.args.rows.now in
    let wanted = after cs m rows in
    let audited = IsAuditOf cs m rows (planned c.args.plan.now.workers c.args.plan.now.level) in
    record {
      answer = given_rows wanted audited c.call.result c.call.ensures;
      small = given_few wanted audited c.call.result (after_few cs rows (subst (λ n. n ≤ 4194304) (sym (length-map c.args.rows.now _)) c.requires.small) m) c.call.ensures;
      stop = given_stop wanted audited c.call.result c.call.ensures;
      audit = given_audit wanted audited c.call.result c.call.ensures;
    }
