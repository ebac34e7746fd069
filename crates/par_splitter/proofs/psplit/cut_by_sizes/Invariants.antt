use Rattle.std.proofs.Common.{◌≡◌, ◌+◌, length, drop, vec_len}
use Rattle.std.specs.Prelude.{vec_capacity}
use Rattle.par_splitter.proofs.Cuts.{AreCutSoFar}
use Rattle.par_splitter.proofs.psplit.cut_by_sizes.Given as goal

abbrev pub invariant-loop-size : goal.invariant-loop-size
invariant-loop-size g l =
    AreCutSoFar g.S.Splitter.items g.S.Splitter.lo l.fn.whole l.sizes l.parts.items (drop l.size-index l.sizes) l.rest
    × (vec_len l.parts ≡ l.size-index)
    × (vec_capacity l.parts ≡ length l.sizes + 1)
