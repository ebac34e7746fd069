use Rattle.std.proofs.Common.{◌≡◌, map, take}
use Rattle.pipe_checks.specs.Places.{zero}
use Rattle.pipe_checks.proofs.place.zeroed.Given as goal

abbrev pub invariant-loop-token : goal.invariant-loop-token
invariant-loop-token l = l.all.items ≡ map zero (take l.token-index l.tokens)
