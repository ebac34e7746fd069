use Rattle.std.proofs.Common.{◌≡◌, drop}
use Rattle.par_flat.specs.Slots.{looked}
use Rattle.par_flat.proofs.slots.look.Given as goal

-- what is left is walked as all is
abbrev pub invariant-loop-slot : goal.invariant-loop-slot
invariant-loop-slot g l = looked (g.W.Wanted.is_wanted l.wanted) l.rest (drop l.slot-index l.slots) ≡ looked (g.W.Wanted.is_wanted l.wanted) l.rest l.slots
