use Rattle.std.proofs.Common.{map, sym, subst}
use Rattle.par_task.specs.Marking.{no_flag}
use Rattle.pipe_expr.specs.Grammar.{view}
use Rattle.pipe_steps.specs.Said.{named_view}
use Rattle.pipe_eval.specs.Answers.{verdict_on}
use Rattle.pipe_eval.specs.Mapped.{condition_on, row_on}
use Rattle.pipe_stages.specs.Audits.{IsRun}
use Rattle.pipe_stages.specs.Rows.{pointed}
use Rattle.pipe_stages.specs.Runs.{Gives}
use Rattle.pipe_stages.specs.Stages.{filtered, made_by, then_made}
use Rattle.pipe_stages.proofs.Made.{chosen_gives}
use Rattle.par_task.specs.Manners.{alone}
use Rattle.pipe_stages.proofs.making.collect_alone.Goals as goal

pub returns : goal.returns
returns g c =
    let columns = c.args.schema.now.columns.items in
    let verdict = verdict_on columns (view c.args.e.now) in
    let f = made_by columns (map named_view c.args.fields.now) in
    let rows = pointed c.args.rows.now in
    subst (Gives (then_made f (filtered columns (view c.args.e.now) rows)) (IsRun no_flag verdict rows (alone c.args.level))) (sym c.collected.ensures)
    (chosen_gives (row_on c.in_ok-maker.maker) f _ rows (alone c.args.level) c.in_ok-kept.audit c.in_ok-maker.ensures c.new-source.ensures.list (condition_on c.in_ok-test.test) verdict c.in_ok-kept.kept c.in_ok-test.ensures c.in_ok-kept.ensures.answer c.in_ok-kept.ensures.audit)
