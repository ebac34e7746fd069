use Rattle.std.proofs.Common.{◌≡◌, ◌∙◌, List, ℕ, Option, map, sym, subst}
use Rattle.par_laws.specs.declared.test.Verdict.{Verdict}
use Rattle.par_rows.specs.declared.row.Row.{Row}
use Rattle.par_task.specs.Marking.{abort_flag}
use Rattle.par_access.specs.Found.{IsFound, IsPlaceFound}
use Rattle.par_jobs.specs.Runs.{IsRunOver}
use Rattle.pipe_expr.specs.Grammar.{view}
use Rattle.pipe_eval.specs.Answers.{verdict_on}
use Rattle.pipe_stages.specs.Rows.{pointed}
use Rattle.pipe_answers.specs.Texts.{found_text, placed_row}
use Rattle.pipe_answers.proofs.Finding.{placed_so}
use Rattle.pipe_answers.proofs.Tries.{fault_so, got_so, over}
use Rattle.par_task.specs.Manners.{alone}
use Rattle.pipe_answers.proofs.searches.find_alone.Goals as goal

pub returns-in-Got : goal.returns-in-Got
returns-in-Got g c =
    let verdict = verdict_on c.args.schema.now.columns.items (view c.args.e.now) in
    let rows = pointed c.args.rows.now in
    let found = over (λ (v : Row → Verdict) (xs : List Row). IsFound (map v xs) c.in_ok-tried.tried) _ _ _ _ c.in_ok-test.ensures c.new-source.ensures.list c.in_ok-tried.ensures.answer in
    let audit = over (λ (v : Row → Verdict) (xs : List Row). IsRunOver abort_flag v xs (alone c.args.level) c.in_ok-tried.audit) _ _ _ _ c.in_ok-test.ensures c.new-source.ensures.list c.in_ok-tried.ensures.audit in
    let got = got_so _ _ _ _ found.answer_is c.in-Got.is in
    let place = subst (IsPlaceFound (map verdict rows)) (sym got.1) found.place in
    let text : c.in_ok-found-in-Got.field-0.items ≡ found_text c.args.schema.now.columns.items (placed_row rows c.in-Got.place) = rw (c.deref.ensures.value, c.row_at-row.ensures) at c.in_ok-found-in-Got.ensures in
    (got.0, (placed_row rows c.in-Got.place, placed_so verdict rows c.in-Got.place place, text), audit)

pub returns : goal.returns
returns g c =
    let found = over (λ (v : Row → Verdict) (xs : List Row). IsFound (map v xs) c.in_ok-tried.tried) _ _ _ _ c.in_ok-test.ensures c.new-source.ensures.list c.in_ok-tried.ensures.answer in
    fault_so _ _ _ _ found.answer_is c.in-Fault.is
