use Rattle.std.proofs.Common.{◌≡◌, ◌∷◌, ◌≤◌, length, rules, subst}
use Rattle.pipe_stages.specs.Rows.{listed, pointed}
use Rattle.pipe_steps.specs.Said.{middle_view}
use Rattle.pipe_run.specs.Rests.{columns_of}
use Rattle.pipe_run.proofs.Staging.{IsTaken, further_any, noted_step, step_stopped, step_taken, stops_any, table_reached}
use Rattle.par_pool.specs.Plans.{planned}
use Rattle.pipe_run.proofs.stages.+run_picks.Goals as goal

pub returns-in-Err-clause-stopped : goal.returns-in-Err-clause-stopped
returns-in-Err-clause-stopped g t c =
    let s : c.args.rest.steps.now ≡ c.in-Some.step.now ∷ c.in-Some.steps.now = search rules in
    rw c.stage_outcome.ensures (step_stopped (planned c.args.plan.now.workers c.args.plan.now.level) c.args.rest c.in-Some.step.now c.in-Some.steps.now (pointed c.args.rows.now) c.in-Err.stop s c.in-Err.ensures.stop)

pub returns-in-Picked-clause-reached : goal.returns-in-Picked-clause-reached
returns-in-Picked-clause-reached g t c =
    let s : c.args.rest.steps.now ≡ c.in-Some.step.now ∷ c.in-Some.steps.now = search rules in
    let noted = noted_step (planned c.args.plan.now.workers c.args.plan.now.level) (columns_of c.args.rest) (middle_view c.in-Some.step.now) c.args.rows.now (listed c.in-Ok.ran.0) c.args.rest.number _ _ c.in-Ok.ran.1 c.args.audits.now.items c.note.new.audits.items
    c.in-Ok.ensures.answer c.in-Ok.ensures.audit c.step_name.ensures (rw c.rows_after.ensures at c.step_items-items.ensures) c.in_ok-note.ensures in
    let taken = step_taken (planned c.args.plan.now.workers c.args.plan.now.level) c.args.rest c.in_ok-rest.rest c.in-Some.step.now c.in-Some.steps.now (pointed c.args.rows.now) (listed c.in-Ok.ran.0) noted.0 s c.requires.ready c.in_ok-rest.ensures c.in-Ok.ensures.answer noted.2 in
    further_any (planned c.args.plan.now.workers c.args.plan.now.level) c.args.rest c.in_ok-rest.rest (pointed c.args.rows.now) _ c.args.audits.now.items c.note.new.audits.items c.run_picks.new.audits.items noted.0 c.run_picks.result (subst (λ q. IsTaken (planned c.args.plan.now.workers c.args.plan.now.level) c.args.rest c.in_ok-rest.rest (pointed c.args.rows.now) (listed q) noted.0) c.in-Picked.is taken) noted.1 (rw c.deref.ensures.value at c.run_picks.ensures.reached)

pub returns-in-Picked-clause-stopped : goal.returns-in-Picked-clause-stopped
returns-in-Picked-clause-stopped g t c =
    let s : c.args.rest.steps.now ≡ c.in-Some.step.now ∷ c.in-Some.steps.now = search rules in
    let noted = noted_step (planned c.args.plan.now.workers c.args.plan.now.level) (columns_of c.args.rest) (middle_view c.in-Some.step.now) c.args.rows.now (listed c.in-Ok.ran.0) c.args.rest.number _ _ c.in-Ok.ran.1 c.args.audits.now.items c.note.new.audits.items
    c.in-Ok.ensures.answer c.in-Ok.ensures.audit c.step_name.ensures (rw c.rows_after.ensures at c.step_items-items.ensures) c.in_ok-note.ensures in
    let taken = step_taken (planned c.args.plan.now.workers c.args.plan.now.level) c.args.rest c.in_ok-rest.rest c.in-Some.step.now c.in-Some.steps.now (pointed c.args.rows.now) (listed c.in-Ok.ran.0) noted.0 s c.requires.ready c.in_ok-rest.ensures c.in-Ok.ensures.answer noted.2 in
    stops_any (planned c.args.plan.now.workers c.args.plan.now.level) c.args.rest c.in_ok-rest.rest (pointed c.args.rows.now) _ noted.0 c.run_picks.result (subst (λ q. IsTaken (planned c.args.plan.now.workers c.args.plan.now.level) c.args.rest c.in_ok-rest.rest (pointed c.args.rows.now) (listed q) noted.0) c.in-Picked.is taken) (rw c.deref.ensures.value at c.run_picks.ensures.stopped)

pub returns-clause-reached : goal.returns-clause-reached
returns-clause-reached g t c =
    let s : c.args.rest.steps.now ≡ c.in-Some.step.now ∷ c.in-Some.steps.now = search rules in
    let noted = noted_step (planned c.args.plan.now.workers c.args.plan.now.level) (columns_of c.args.rest) (middle_view c.in-Some.step.now) c.args.rows.now (listed c.in-Ok.ran.0) c.args.rest.number _ _ c.in-Ok.ran.1 c.args.audits.now.items c.note.new.audits.items
    c.in-Ok.ensures.answer c.in-Ok.ensures.audit c.step_name.ensures (rw c.rows_after.ensures at c.step_items-items.ensures) c.in_ok-note.ensures in
    let taken = step_taken (planned c.args.plan.now.workers c.args.plan.now.level) c.args.rest c.in_ok-rest.rest c.in-Some.step.now c.in-Some.steps.now (pointed c.args.rows.now) (listed c.in-Ok.ran.0) noted.0 s c.requires.ready c.in_ok-rest.ensures c.in-Ok.ensures.answer noted.2 in
    table_reached (planned c.args.plan.now.workers c.args.plan.now.level) c.args.rest c.in_ok-rest.rest (pointed c.args.rows.now) c.in-Made.table c.args.audits.now.items c.note.new.audits.items noted.0 (subst (λ q. IsTaken (planned c.args.plan.now.workers c.args.plan.now.level) c.args.rest c.in_ok-rest.rest (pointed c.args.rows.now) (listed q) noted.0) c.in-Made.is taken) noted.1 (subst (λ q. length (listed q) ≤ 4194304) c.in-Made.is c.in-Ok.ensures.small)
