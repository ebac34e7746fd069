use Rattle.std.proofs.Common.{◌≡◌, ◌++◌, length}
use Rattle.std.specs.List.{flat_map}
use Rattle.par_vector.proofs.vector.RadixVector.from_chunks.Given as goal

-- what was pushed and the chunks that are left are the whole
abbrev pub invariant-loop-chunk : goal.invariant-loop-chunk
invariant-loop-chunk g l = l.all ++ flat_map (λ c. c.items) l.chunks ≡ flat_map (λ c. c.items) l.fn.chunks

abbrev pub decreases-loop-chunk : goal.decreases-loop-chunk
decreases-loop-chunk g l = length l.chunks
