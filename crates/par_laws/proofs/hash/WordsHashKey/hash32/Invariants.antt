use Rattle.std.proofs.Common.{◌≡◌, fold, take}
use Rattle.par_laws.specs.Hash.{hash_step}
use Rattle.par_laws.proofs.hash.WordsHashKey.hash32.Given as goal

abbrev pub invariant-loop-byte : goal.invariant-loop-byte
invariant-loop-byte l = l.hash ≡ fold hash_step 0 (take l.byte-index l.byte-items)
