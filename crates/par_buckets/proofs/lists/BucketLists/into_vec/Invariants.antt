use Rattle.std.proofs.Common.{◌≡◌, ◌++◌}
use Rattle.par_index.specs.Entries.{joined}
use Rattle.par_buckets.proofs.lists.BucketLists.into_vec.Given as goal

-- the items of the lists so far
abbrev pub invariant-loop-chunks : goal.invariant-loop-chunks
invariant-loop-chunks g l = record {
  joined_so_far : l.all ≡ joined l.yielded;
  whole : l.yielded ++ l.chunks-iterator.rest.items ≡ l.fn.self.1;
}
