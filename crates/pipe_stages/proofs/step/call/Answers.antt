use Rattle.std.proofs.Common.{◌≡◌, map, ap, sym, ◌∙◌, subst}
use Rattle.pipe_expr.specs.Grammar.{view}
use Rattle.pipe_steps.specs.Said.{Middle, middle_view, named_view}
use Rattle.pipe_steps.specs.Said as x
use Rattle.pipe_stages.specs.Audits.{IsAuditOf}
use Rattle.pipe_stages.specs.Rows.{pointed}
use Rattle.pipe_stages.specs.Runs.{Gives}
use Rattle.pipe_stages.specs.Stages.{after}
use Rattle.par_pool.specs.Plans.{planned}
use Rattle.pipe_stages.proofs.step.call.Goals as goal

pub returns-in-Map : goal.returns-in-Map
returns-in-Map g c =
    let cs = c.args.schema.now.columns.items in
    let rows = pointed c.args.rows.now in
    let same : x.Map (map named_view c.deref.result.now) ≡ middle_view c.args.step.now = ap (λ fields. x.Map (map named_view fields)) c.deref.ensures.value ∙ sym (ap middle_view c.in-Map.is) in
    subst (λ m. Gives (after cs m rows) (IsAuditOf cs m rows (planned c.args.plan.now.workers c.args.plan.now.level)) c.map.result) same c.map.ensures

pub returns-in-Collect : goal.returns-in-Collect
returns-in-Collect g c =
    let cs = c.args.schema.now.columns.items in
    let rows = pointed c.args.rows.now in
    let e = view c.in-Collect.e in
    let same : x.Collect (map named_view c.deref-in-Collect.result.now) e ≡ middle_view c.args.step.now = ap (λ fields. x.Collect (map named_view fields) e) c.deref-in-Collect.ensures.value ∙ sym (ap middle_view c.in-Collect.is) in
    subst (λ m. Gives (after cs m rows) (IsAuditOf cs m rows (planned c.args.plan.now.workers c.args.plan.now.level)) c.collect.result) same c.collect.ensures
