use Rattle.pipe_print.proofs.Texts.{more_steps}
use Rattle.pipe_print.proofs.printing.steps.Goals as goal

pub loop-one-preserved : goal.loop-one-preserved
loop-one-preserved c =
    more_steps c.args.version c.args.out.now.items c.loop-one.out.items c.step.new.out.items c.args.all.now c.loop-one.one-index c.one-item.result
    c.loop-one-test.true c.one-item.is c.loop-one.invariant c.in_ok-step.ensures
