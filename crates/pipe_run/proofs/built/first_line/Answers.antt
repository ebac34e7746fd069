use Rattle.pipe_program.specs.Plans.{plan}
use Rattle.pipe_run.proofs.built.first_line.Goals as goal

pub unreachable-requires : goal.unreachable-requires
unreachable-requires c = (c.text_laws.ensures.unique c.args.text.now).apart (plan c.args.pipeline.now) _ _ c.requires.reads (rw c.in-Err-Refused.field-0-is at c.in-Err-Refused.ensures.stopped)
