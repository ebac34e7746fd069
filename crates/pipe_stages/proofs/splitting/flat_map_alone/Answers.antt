use Rattle.std.proofs.Common.{◌≡◌, Ok, Some, ap, ◌∙◌, subst}
use Rattle.std.specs.List.{flat_map}
use Rattle.pipe_eval.specs.Bound.{place_named}
use Rattle.par_task.specs.Marking.{no_test}
use Rattle.par_jobs.specs.Runs.{untested}
use Rattle.pipe_stages.specs.Audits.{IsRun}
use Rattle.pipe_stages.specs.Rows.{pointed}
use Rattle.pipe_stages.specs.Runs.{Gives}
use Rattle.pipe_stages.specs.Stages.{at_most, split_at_place}
use Rattle.pipe_stages.specs.Stops.{of_flat}
use Rattle.pipe_stages.specs.declared.stepped.Stepped.TheVariants.{Made}
use Rattle.pipe_stages.proofs.Flat.{flat_gives, flat_stops, handed_on}
use Rattle.par_task.specs.Manners.{alone}
use Rattle.pipe_stages.proofs.splitting.flat_map_alone.Goals as goal

pub returns : goal.returns
returns g c =
    let sep = c.args.separator.now in
    let rows = pointed c.args.rows.now in
    let named : c.place_named.result ≡ place_named c.args.schema.now.columns.items c.args.name.now = c.place_named.ensures.place ∙ ap (λ cs. place_named cs c.args.name.now) c.deref.ensures.value in
    subst (λ at. Gives (at_most (flat_map (split_at_place at sep) rows)) (IsRun no_test untested rows (alone c.args.level)) (Ok (Made c.in_ok-all.all, Some c.in_ok-all.audit))) named
    (flat_gives (split_at_place c.place_named.result sep) _ rows (alone c.args.level) c.in_ok-all.all c.in_ok-all.audit c.new-source.ensures.list c.in_ok-all.ensures.answer c.in_ok-all.ensures.few c.in_ok-all.ensures.audit)

pub returns-in_err-all : goal.returns-in_err-all
returns-in_err-all g c =
    let sep = c.args.separator.now in
    let rows = pointed c.args.rows.now in
    let named : c.place_named.result ≡ place_named c.args.schema.now.columns.items c.args.name.now = c.place_named.ensures.place ∙ ap (λ cs. place_named cs c.args.name.now) c.deref.ensures.value in
    subst (λ at. Gives (at_most (flat_map (split_at_place at sep) rows)) (IsRun no_test untested rows (alone c.args.level)) c.from_residual.result) named
    (handed_on _ _ c.from_residual.result (of_flat c.in_err-all.field-0.0) c.from_residual.ensures.1
    (flat_stops (split_at_place c.place_named.result sep) _ rows c.in_err-all.field-0.0 c.new-source.ensures.list c.in_err-all.ensures.stop))
