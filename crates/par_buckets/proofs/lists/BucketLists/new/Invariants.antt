use Rattle.std.proofs.Common.{◌≡◌, [], replicate}
use Rattle.par_buckets.proofs.lists.BucketLists.new.Given as goal

-- as many lists as were counted, and none has an item
abbrev pub invariant-loop : goal.invariant-loop
invariant-loop g l = l.lists.items ≡ replicate l.counter []
