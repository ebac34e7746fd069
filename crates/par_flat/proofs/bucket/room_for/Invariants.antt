use Rattle.std.proofs.Common.{◌≡◌, ◌<◌, ◌*◌, ◌^◌, ℕ}
use Rattle.par_flat.proofs.bucket.room_for.Given as goal

-- no lesser room is enough
abbrev pub invariant-loop-room : goal.invariant-loop-room
invariant-loop-room l = record {
  half : l.half ≡ 16 * 2 ^ l.room;
  lesser : (m : ℕ) → m < l.room → 16 * 2 ^ m < l.n;
}
