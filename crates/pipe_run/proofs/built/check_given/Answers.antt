use Rattle.std.proofs.Common.{sym, ap, ◌∙◌}
use Rattle.pipe_program.specs.Plans.{plan}
use Rattle.pipe_steps.specs.Said.{source_view}
use Rattle.pipe_run.proofs.Sourcing.{data_stands}
use Rattle.pipe_run.proofs.built.check_given.Goals as goal

pub unreachable-requires : goal.unreachable-requires
unreachable-requires c =
    let line = c.in_ok-line-in-Csv-None.ensures.first in
    let said = c.requires.reads in
    data_stands (plan c.args.pipeline.now) _ line.0 said.0 (ap source_view c.in-Csv-None.is-0) said.2 (c.text_laws.ensures.numbered c.args.text.now said.0 line.0 said.1 line.1) (sym line.2 ∙ c.in-None.is)
