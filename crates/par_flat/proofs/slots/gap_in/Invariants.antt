use Rattle.std.proofs.Common.{◌≡◌, ◌+◌, drop}
use Rattle.par_flat.specs.Slots.{first_free}
use Rattle.par_flat.proofs.slots.gap_in.Given as goal

abbrev pub invariant-loop-i : goal.invariant-loop-i
invariant-loop-i l = l.i + first_free (drop l.i l.slots) ≡ first_free l.slots
