use Rattle.std.proofs.Common.{◌∙◌}
use Rattle.par_pool.proofs.Spines.{not_self}
use Rattle.par_pool.proofs.Gathering.{settled_of}
use Rattle.par_pool.proofs.settle.Run+J+G+M.settle.Goals as goal

pub wait_for-requires-clause-opened : goal.wait_for-requires-clause-opened
wait_for-requires-clause-opened g c = let o = c.requires.opened in let n = c.requires.node in (o.0, o.1, c.try_node.ensures.owns c.args.k n.1 (not_self c.tree_laws.ensures c.args.k n.0) ∙ o.2)

pub returns-clause-worker : goal.returns-clause-worker
returns-clause-worker g c = let w = c.try_node.ensures.worker in record { board_is = c.wait_for.ensures.board; signal_is = w.signal_is; own = w.own }

pub returns-clause-settled : goal.returns-clause-settled
returns-clause-settled g c = let t = c.try_node.ensures in settled_of t.holds t.owns t.shut c.wait_for.ensures.collected

pub returns-clause-bundle : goal.returns-clause-bundle
returns-clause-bundle g c = λ lo hi e. let n = c.requires.node in c.wait_for.ensures.bundle lo hi (c.try_node.ensures.owns c.args.k n.1 (not_self c.tree_laws.ensures c.args.k n.0) ∙ e)
