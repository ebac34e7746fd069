use Rattle.std.proofs.Common.{◌≡◌, [], replicate}
use Rattle.par_flat.proofs.tests.of_blocks.Given as goal

-- the empty blocks so far
abbrev pub invariant-loop-bucket : goal.invariant-loop-bucket
invariant-loop-bucket l = l.blocks.items ≡ replicate l.bucket []
