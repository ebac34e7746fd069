use Rattle.std.proofs.lemmas.List.Elements.{All-push}
use Rattle.par_task.specs.Marking.{marks_of}
use Rattle.par_pool.specs.Lists.{IsList}
use Rattle.par_pool.proofs.runs.lists_of.Goals as goal

pub loop-hand-preserved : goal.loop-hand-preserved
loop-hand-preserved g c = rw c.in_ok-push-2.ensures.items
    (All-push (λ v. IsList g.J.Job.kind (marks_of g.J.Job.kind (g.J.Job.verdicts c.args._job.now)) v.items) c.loop-hand.lists.items c.leaves_of-in-loop-hand.result c.loop-hand.invariant c.leaves_of-in-loop-hand.ensures)
