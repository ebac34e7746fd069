use Rattle.std.proofs.Common.{◌≤◌, ◌+◌, ◌-◌, length}
use Rattle.par_edge.proofs.Reading.{HasRead}
use Rattle.par_edge.proofs.whole.read_whole.Given as goal

abbrev pub invariant-loop-buffer : goal.invariant-loop-buffer
invariant-loop-buffer g l = HasRead (g.H.Shelf.state l.fn.shelf) (g.H.Shelf.state l.shelf) l.name l.bytes.items × (length l.bytes.items ≤ l.limit + 1)

abbrev pub decreases-loop-buffer : goal.decreases-loop-buffer
decreases-loop-buffer g l = l.limit + 1 - length l.bytes.items
