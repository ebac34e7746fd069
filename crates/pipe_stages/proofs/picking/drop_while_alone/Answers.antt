use Rattle.std.proofs.Common.{map, sym, subst}
use Rattle.par_laws.specs.Verdict.{contrary}
use Rattle.par_lists.specs.Cuts.{drop_while}
use Rattle.par_task.specs.Marking.{low_flag, passes}
use Rattle.par_jobs.specs.Faults.{fault_of}
use Rattle.pipe_expr.specs.Grammar.{view}
use Rattle.pipe_eval.specs.Answers.{verdict_on}
use Rattle.pipe_eval.specs.Mapped.{condition_on}
use Rattle.pipe_stages.specs.Audits.{IsRun}
use Rattle.pipe_stages.specs.Rows.{pointed}
use Rattle.pipe_stages.specs.Runs.{Gives}
use Rattle.pipe_stages.specs.Stages.{denied, dropped_while}
use Rattle.pipe_stages.proofs.Picked.{chosen}
use Rattle.par_task.specs.Manners.{alone}
use Rattle.pipe_stages.proofs.picking.drop_while_alone.Goals as goal

pub returns : goal.returns
returns g c =
    let columns = c.args.schema.now.columns.items in
    let verdict = verdict_on columns (view c.args.e.now) in
    let rows = pointed c.args.rows.now in
    subst (Gives (dropped_while columns (view c.args.e.now) rows) (IsRun low_flag (denied columns (view c.args.e.now)) rows (alone c.args.level))) (sym c.picked.ensures)
    (chosen (λ v r. fault_of low_flag (map (λ x. contrary (v x)) r)) (λ v r. drop_while (λ x. passes (v x)) r) low_flag (λ v. (λ x. contrary (v x))) (alone c.args.level) c.in_ok-kept.kept c.in_ok-kept.audit
    (condition_on c.in_ok-test.test) verdict _ rows c.in_ok-test.ensures c.new-source.ensures.list c.in_ok-kept.ensures.answer c.in_ok-kept.ensures.audit)
