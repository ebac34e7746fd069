use Rattle.std.proofs.Common.{List, get_or, ◌∙◌, ap}
use Rattle.par_board.specs.Seen.{Owned, not_owned}
use Rattle.par_pool.proofs.runs.work_all.Goals as goal

pub wait_for-bundle-requires-clause-opened : goal.wait_for-bundle-requires-clause-opened
wait_for-bundle-requires-clause-opened g c = (_, _, ap (λ (l : List Owned). get_or l 1 not_owned) c.hire_crew.ensures.root.1 ∙ c.requires.root.1)

pub lists_of-requires-clause-others : goal.lists_of-requires-clause-others
lists_of-requires-clause-others g c = λ k d lt. (c.help_all-first.ensures.others k d lt).3.worker.own
