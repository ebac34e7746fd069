use Rattle.std.proofs.Common.{rules, ◌≡◌, ◌∙◌, ◌<◌, ◌-◌, ◌*◌, ◌^◌, ◌%◌, ap, sym, subst, replicate, arith}
use Rattle.std.proofs.lemmas.Nat.{pow_pos}
use Rattle.par_flat.specs.declared.slots.Slot.TheVariants.{Free}
use Rattle.par_flat.specs.Slots.{taken}
use Rattle.par_flat.specs.Blocks.{IsBlock}
use Rattle.par_flat.proofs.Puts.{taken-free}
use Rattle.par_flat.proofs.Doubling.{small_room}
use Rattle.par_flat.proofs.Blocks.{block-free}
use Rattle.par_flat.proofs.block_slots.BlockSlots.with_room.Goals as goal

pub invariant_of-result : goal.invariant_of-result
invariant_of-result c =
    let size = 1 * 2 ^ c.args.room % 4294967296 in
    let free : c.in_ok-slots.slots.items ≡ replicate size Free = search rules in
    let some : 0 < size = omega (arith, small_room c.args.room c.requires, pow_pos c.args.room) in
    (subst (IsBlock (27 - c.args.room) size) (sym free) (block-free (27 - c.args.room) size (omega arith) some), sym (ap taken free ∙ taken-free size))

pub returns : goal.returns
returns c = sym (invariant_of-result c).1
