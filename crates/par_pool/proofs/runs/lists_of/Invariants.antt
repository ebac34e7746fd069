use Rattle.std.specs.List.{All}
use Rattle.par_task.specs.Marking.{marks_of}
use Rattle.par_pool.specs.Lists.{IsList}
use Rattle.par_pool.proofs.runs.lists_of.Given as goal

abbrev pub invariant-loop-hand : goal.invariant-loop-hand
invariant-loop-hand g l = All (λ v. IsList g.J.Job.kind (marks_of g.J.Job.kind (g.J.Job.verdicts l._job)) v.items) l.lists.items
