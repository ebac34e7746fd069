use Rattle.std.proofs.Common.{◌≡◌, ◌++◌, ◌-◌, ◌≤◌, [], replicate}
use Rattle.collections_tests.proofs.flat.united.Given as goal

-- the first block, and the empty blocks so far
abbrev pub invariant-loop-bucket : goal.invariant-loop-bucket
invariant-loop-bucket l = record {
  blocks_are : l.blocks.items ≡ l.initial.blocks.items ++ replicate (l.bucket - 1) [];
  counted : 1 ≤ l.bucket;
}
