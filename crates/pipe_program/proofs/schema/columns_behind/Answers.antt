use Rattle.pipe_program.proofs.Columns.{columns_more}
use Rattle.pipe_program.proofs.schema.columns_behind.Goals as goal

pub loop-step-preserved : goal.loop-step-preserved
loop-step-preserved c =
    columns_more c.args.before.items c.loop-step.columns.items c.deref.result.now c.in_ok-columns.columns.items c.args.steps.now c.loop-step.step-index c.step-item.result
    c.loop-step-test.true c.step-item.is c.loop-step.invariant c.deref.ensures.value c.in_ok-columns.ensures
