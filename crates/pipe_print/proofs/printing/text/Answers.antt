use Rattle.std.proofs.Common.{◌≡◌, ◌++◌, ◌∙◌, ap, map, List}
use Rattle.std.specs.List.{flat_map}
use Rattle.pipe_steps.specs.declared.step.Step.{Step}
use Rattle.pipe_steps.specs.Said.{Goes, last_view, middle_view, source_view}
use Rattle.pipe_print.specs.Lines.{ended, heading}
use Rattle.pipe_print.proofs.Texts.{whole_text}
use Rattle.pipe_print.proofs.printing.text.Goals as goal

pub returns : goal.returns
returns c =
    whole_text c.args.p.now.version (heading c.args.p.now.version) (map Goes (map middle_view c.args.p.now.steps.items)) (source_view c.args.p.now.source) c.args.p.now.kind (last_view c.args.p.now.last)
    c.new-out.result.items c.heading.new.out.items c.source.new.out.items c.par.new.out.items c.steps.new.out.items c.last.new.out.items
    c.new-out.ensures.items c.in_ok-heading.ensures c.in_ok-source.ensures c.in_ok-par.ensures
    (c.in_ok-steps.ensures ∙ ap (λ (xs : List Step). c.par.new.out.items ++ flat_map (ended c.args.p.now.version) (map Goes (map middle_view xs))) c.deref.ensures.value)
    c.in_ok-last.ensures
