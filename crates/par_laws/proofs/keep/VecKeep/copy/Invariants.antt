use Rattle.std.proofs.Common.{◌≡◌, map, take}
use Rattle.par_laws.proofs.keep.VecKeep.copy.Given as goal

abbrev pub invariant-loop-item : goal.invariant-loop-item
invariant-loop-item g l = map g.T.Shown.shown l.copies.items ≡ map g.T.Shown.shown (take l.item-index l.item-items)
