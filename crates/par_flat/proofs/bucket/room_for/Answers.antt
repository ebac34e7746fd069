use Rattle.std.proofs.Common.{arith}
use Rattle.par_flat.proofs.Doubling.{is_room}
use Rattle.par_flat.proofs.bucket.room_for.Goals as goal

pub returns-then-n-half-clause-room : goal.returns-then-n-half-clause-room
returns-then-n-half-clause-room c = is_room c.args.n c.loop-room.room (omega (arith, c.loop-room.invariant.half)) c.loop-room.invariant.lesser
