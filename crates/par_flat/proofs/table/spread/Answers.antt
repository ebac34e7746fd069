use Rattle.std.proofs.Common.{◌≡◌, ◌∙◌, ◌*◌, ◌^◌, ◌-◌, ap, sym, subst, refl, length, take, drop, ◌++◌, arith}
use Rattle.par_index.proofs.Keeping.{take_front}
use Rattle.par_flat.specs.Slots.{IsTable}
use Rattle.par_flat.proofs.Puts.{homes_of}
use Rattle.par_flat.proofs.Doubling.{small_room}
use Rattle.par_flat.proofs.table.spread.Goals as goal

pub put_all-requires-clause-homes : goal.put_all-requires-clause-homes
put_all-requires-clause-homes c =
    let n : length c.as_mut_slice.result.now ≡ 32 * 2 ^ c.args.room = omega (arith, small_room c.args.room c.requires.room, c.as_mut_slice.ensures.len, c.in_ok-new.ensures.len) in
    omega (arith, homes_of c.args.room c.requires.room, ap (λ k. k * 2 ^ (27 - c.args.room)) n)

pub returns-clause-table : goal.returns-clause-table
returns-clause-table c =
    let n : length c.put_all.new.new ≡ 32 * 2 ^ c.args.room = omega (arith, small_room c.args.room c.requires.room, c.as_mut_slice.ensures.len, c.in_ok-new.ensures.len, c.put_all.auto.new) in
    let m : c.in_ok-new.new.len ≡ length c.put_all.new.new = omega (arith, c.as_mut_slice.ensures.len, c.put_all.auto.new) in
    let back : take c.in_ok-new.new.len (c.put_all.new.new ++ drop (length c.put_all.new.new) c.in_ok-new.new.items) ≡ c.put_all.new.new = ap (λ k. take k (c.put_all.new.new ++ drop (length c.put_all.new.new) c.in_ok-new.new.items)) m ∙ take_front c.put_all.new.new (drop (length c.put_all.new.new) c.in_ok-new.new.items) _ refl in
    subst (IsTable c.args.room) (sym back)
    (record {
      rooms = c.requires.room;
      size = n;
      homes = omega (arith, homes_of c.args.room c.requires.room, ap (λ k. k * 2 ^ (27 - c.args.room)) n);
      half = omega (arith, c.put_all.ensures.count, c.requires.half, n);
      clear = c.put_all.ensures.clear;
    })
