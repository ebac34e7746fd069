use Rattle.std.proofs.Common.{map, sym, subst}
use Rattle.par_lists.specs.Choices.{filter_not}
use Rattle.par_task.specs.Marking.{no_flag, passes}
use Rattle.par_jobs.specs.Faults.{fault_of}
use Rattle.pipe_expr.specs.Grammar.{view}
use Rattle.pipe_eval.specs.Answers.{verdict_on}
use Rattle.pipe_eval.specs.Mapped.{condition_on}
use Rattle.pipe_stages.specs.Audits.{IsRun}
use Rattle.pipe_stages.specs.Rows.{pointed}
use Rattle.pipe_stages.specs.Runs.{Gives}
use Rattle.pipe_stages.specs.Stages.{refused}
use Rattle.pipe_stages.proofs.Picked.{chosen}
use Rattle.par_task.specs.Manners.{alone}
use Rattle.pipe_stages.proofs.picking.filter_not_alone.Goals as goal

pub returns : goal.returns
returns g c =
    let columns = c.args.schema.now.columns.items in
    let verdict = verdict_on columns (view c.args.e.now) in
    let rows = pointed c.args.rows.now in
    subst (Gives (refused columns (view c.args.e.now) rows) (IsRun no_flag verdict rows (alone c.args.level))) (sym c.picked.ensures)
    (chosen (λ v r. fault_of no_flag (map v r)) (λ v r. filter_not (λ x. passes (v x)) r) no_flag (λ v. v) (alone c.args.level) c.in_ok-kept.kept c.in_ok-kept.audit
    (condition_on c.in_ok-test.test) verdict _ rows c.in_ok-test.ensures c.new-source.ensures.list c.in_ok-kept.ensures.answer c.in_ok-kept.ensures.audit)
