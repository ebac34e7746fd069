use Rattle.std.proofs.Common.{◌≡◌, ◌++◌, take, drop, option_map, false}
use Rattle.pipe_text.specs.Reading.{body_at}
use Rattle.pipe_text.proofs.front.body.Given as goal

abbrev pub invariant-loop-n : goal.invariant-loop-n
invariant-loop-n l = body_at false l.bytes ≡ option_map (λ d. take l.n l.bytes ++ d) (body_at l.escaped (drop l.n l.bytes))
