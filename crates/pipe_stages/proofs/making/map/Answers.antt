use Rattle.std.proofs.Common.{map, sym, subst}
use Rattle.par_task.specs.Marking.{no_test}
use Rattle.par_jobs.specs.Runs.{untested}
use Rattle.pipe_steps.specs.Said.{named_view}
use Rattle.pipe_eval.specs.Mapped.{row_on}
use Rattle.pipe_stages.specs.Audits.{IsRun}
use Rattle.pipe_stages.specs.Rows.{pointed}
use Rattle.pipe_stages.specs.Runs.{Gives}
use Rattle.pipe_stages.specs.Stages.{each_made, made_by}
use Rattle.pipe_stages.proofs.Made.{mapped_gives}
use Rattle.par_pool.specs.Plans.{planned}
use Rattle.pipe_stages.proofs.making.map.Goals as goal

pub returns : goal.returns
returns g c =
    let f = made_by c.args.schema.now.columns.items (map named_view c.args.fields.now) in
    let rows = pointed c.args.rows.now in
    subst (Gives (each_made f rows) (IsRun no_test untested rows (planned c.args.plan.now.workers c.args.plan.now.level))) (sym c.made.ensures)
    (mapped_gives (row_on c.in_ok-maker.maker) f _ rows (planned c.args.plan.now.workers c.args.plan.now.level) c.in_ok-all.audit c.in_ok-maker.ensures c.new-source.ensures.list c.in_ok-all.all c.in_ok-all.ensures.answer c.in_ok-all.ensures.audit)
