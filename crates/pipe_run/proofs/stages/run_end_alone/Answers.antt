use Rattle.pipe_stages.specs.Rows.{pointed}
use Rattle.pipe_steps.specs.Said.{last_view}
use Rattle.pipe_run.specs.Rests.{columns_of}
use Rattle.pipe_run.proofs.Staging.{last_reached, last_stopped, noted_last}
use Rattle.par_task.specs.Manners.{alone}
use Rattle.pipe_run.proofs.stages.run_end_alone.Goals as goal

pub returns-in-Err-clause-stopped : goal.returns-in-Err-clause-stopped
returns-in-Err-clause-stopped g c = rw c.stage_outcome.ensures (last_stopped (alone c.args.level) c.args.rest.now (pointed c.args.rows.now) c.in-Err.stop c.requires.over c.in-Err.ensures.stop)

pub returns-in_ok-note-in-Ok-clause-text : goal.returns-in_ok-note-in-Ok-clause-text
returns-in_ok-note-in-Ok-clause-text g c =
    let noted = noted_last (alone c.args.level) (columns_of c.args.rest.now) (last_view c.args.rest.now.last.now) c.args.rows.now c.args.rest.now.number _ _ c.in-Ok.audit c.args.audits.now.items c.note.new.audits.items
    c.in-Ok.ensures.audit c.last_name-name.ensures c.last_items-items.ensures c.in_ok-note-in-Ok.ensures in
    last_reached (alone c.args.level) c.args.rest.now (pointed c.args.rows.now) c.in-Ok.text.items c.args.audits.now.items c.note.new.audits.items c.requires.over c.in-Ok.ensures.fault c.in-Ok.ensures.answer noted
