use Rattle.std.proofs.Common.{◌∙◌, ap, sym, length, subst, ◌||◌, ◌+◌, get_or, ◌∷◌, [], arith}
use Rattle.par_flat.specs.declared.slots.Slot.TheVariants.{Free}
use Rattle.par_flat.specs.Slots.{AreClear, is_in, taken, leaves_of}
use Rattle.par_index.specs.Places.{is_among}
use Rattle.par_flat.proofs.Puts.{clear-free, no_leaves, taken-free, taken-take, taken-one_more, is_in-one_more}
use Rattle.par_flat.proofs.table.put_all.Goals as goal

pub loop-slot-init : goal.loop-slot-init
loop-slot-init c = record {
  clear = subst (AreClear c.args.shift) (sym c.requires.free) (clear-free (length c.args.new.now) c.args.shift);
  count = ap taken c.requires.free ∙ taken-free (length c.args.new.now);
  leaves = λ q a. ap (is_among a) (ap (λ xs. leaves_of xs q) c.requires.free ∙ no_leaves (length c.args.new.now) q);
}

pub put_again-requires-clause-room : goal.put_again-requires-clause-room
put_again-requires-clause-room c = omega (arith, c.loop-slot.invariant.count, taken-take c.loop-slot.slot-index c.args.slots.now, c.requires.room)

pub loop-slot-preserved : goal.loop-slot-preserved
loop-slot-preserved c = record {
  clear = c.put_again.ensures.clear;
  count = c.put_again.ensures.count ∙ (ap (λ n. n + taken (get_or c.args.slots.now c.loop-slot.slot-index Free ∷ [])) c.loop-slot.invariant.count ∙ sym (taken-one_more c.args.slots.now c.loop-slot.slot-index c.loop-slot-test.true));
  leaves = λ q a. c.put_again.ensures.leaves q a ∙ (ap (λ b. b || is_in (get_or c.args.slots.now c.loop-slot.slot-index Free ∷ []) q a) (c.loop-slot.invariant.leaves q a) ∙ sym (is_in-one_more c.args.slots.now c.loop-slot.slot-index q a c.loop-slot-test.true));
}
