use Rattle.std.proofs.Common.{◌≡◌, fold, take}
use Rattle.pipe_eval.specs.Spelled.{next}
use Rattle.pipe_eval.proofs.spelling.Spelling.after.Given as goal

abbrev pub invariant-loop-byte : goal.invariant-loop-byte
invariant-loop-byte l = l.spelling ≡ fold next l.fn.self (take l.byte-index l.byte-items)
