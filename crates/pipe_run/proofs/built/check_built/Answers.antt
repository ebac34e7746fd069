use Rattle.std.proofs.Common.{sym, ◌∙◌}
use Rattle.pipe_program.specs.Plans.{plan}
use Rattle.pipe_run.proofs.Sourcing.{built_of}
use Rattle.pipe_run.proofs.built.check_built.Goals as goal

pub returns-in-None-clause-built : goal.returns-in-None-clause-built
returns-in-None-clause-built c =
    let line = c.in_ok-line.ensures.first in
    let said = c.requires.reads in
    built_of (plan c.args.pipeline.now) line.0 said.0 said.2 (c.text_laws.ensures.numbered c.args.text.now said.0 line.0 said.1 line.1) (sym line.2 ∙ c.in-None.is)
