use Rattle.std.proofs.Common.{◌≡◌, ◌-◌, ◌∙◌, sym, ap, map, take, List}
use Rattle.std.proofs.lemmas.List.{take-map}
use Rattle.par_rows.specs.declared.schema.Column.{Column}
use Rattle.pipe_steps.specs.declared.step.Step.{Step}
use Rattle.pipe_steps.specs.Said.{Middle, middle_view, source_view}
use Rattle.pipe_checks.specs.Columns.{source_columns}
use Rattle.pipe_program.specs.Plans.{columns_on}
use Rattle.pipe_program.proofs.schema.schema_after.Goals as goal

pub returns : goal.returns
returns c =
    c.in_ok-columns.ensures
    ∙ ap (λ (cs : List Column). columns_on cs (map middle_view (take (c.args.k - 1) c.deref.result.now))) c.in_ok-before.ensures
    ∙ ap (λ (steps : List Step). columns_on (source_columns (source_view c.args.p.now.source)) (map middle_view (take (c.args.k - 1) steps))) c.deref.ensures.value
    ∙ ap (λ (ms : List Middle). columns_on (source_columns (source_view c.args.p.now.source)) ms) (sym (take-map middle_view (c.args.k - 1) c.args.p.now.steps.items))
