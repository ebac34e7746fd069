use Rattle.std.proofs.Common.{◌≡◌, ℕ, take}
use Rattle.par_flat.specs.Slots.{AreClear, is_in, taken}
use Rattle.par_flat.proofs.table.put_all.Given as goal

-- the new slots hold what the slots so far do
abbrev pub invariant-loop-slot : goal.invariant-loop-slot
invariant-loop-slot l = record {
  clear : AreClear l.shift l.new;
  count : taken l.new ≡ taken (take l.slot-index l.slots);
  leaves : (q a : ℕ) → is_in l.new q a ≡ is_in (take l.slot-index l.slots) q a;
}
