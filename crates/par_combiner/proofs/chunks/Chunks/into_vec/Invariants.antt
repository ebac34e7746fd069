use Rattle.std.proofs.Common.{◌≡◌, ◌++◌, length}
use Rattle.par_combiner.specs.Chunks.{items_of}
use Rattle.par_combiner.proofs.chunks.Chunks.into_vec.Given as goal

-- what was moved, and then what is left, is the list
abbrev pub invariant-loop-chunk : goal.invariant-loop-chunk
invariant-loop-chunk g l = l.all.items ++ items_of l.list ≡ l.fn.self

abbrev pub decreases-loop-chunk : goal.decreases-loop-chunk
decreases-loop-chunk g l = length l.list
