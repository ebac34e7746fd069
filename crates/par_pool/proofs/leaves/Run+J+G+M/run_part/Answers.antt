use Rattle.std.proofs.Common.{rules, ◌≡◌, length}
use Rattle.par_pool.proofs.Owning.{worker_later, worker_ran, whole_alone}
use Rattle.par_pool.proofs.leaves.Run+J+G+M.run_part.Goals as goal

pub want-requires-in_default-run_leaf : goal.want-requires-in_default-run_leaf
want-requires-in_default-run_leaf g c = worker_later _ _ _ _ _ c.run_leaf.ensures.seat c.requires.worker

pub want-requires-then-not-note : goal.want-requires-then-not-note
want-requires-then-not-note g c = rw c.if-not-note.ensures (worker_later _ _ _ _ _ c.run_leaf.ensures.seat c.requires.worker)

pub want-requires-in-Err : goal.want-requires-in-Err
want-requires-in-Err g c =
    let turn : c.in-Ok.turn ≡ length c.args.worker.now.leaves.items = search rules in
    worker_ran _ _ _ _ _ c.run_leaf.ensures.seat c.in-Ok-run_leaf.ensures.leaf turn c.if-not-note.ensures c.requires.worker

pub returns-in-Ok-alone-clause-worker : goal.returns-in-Ok-alone-clause-worker
returns-in-Ok-alone-clause-worker g c =
    let turn : c.in-Ok.turn ≡ length c.args.worker.now.leaves.items = search rules in
    worker_ran _ _ _ _ _ c.run_leaf.ensures.seat c.in-Ok-run_leaf.ensures.leaf turn c.if-not-note.ensures c.requires.worker

pub returns-in-Ok-alone-clause-bundle : goal.returns-in-Ok-alone-clause-bundle
returns-in-Ok-alone-clause-bundle g c = whole_alone _ c.in-Ok-run_leaf.ensures.leaf c.in-Ok-alone.ensures
