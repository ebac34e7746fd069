use Rattle.std.proofs.Common.{◌≡◌, ◌++◌, map}
use Rattle.par_combiner.specs.Chunks.{items_of}
use Rattle.par_buckets.proofs.lists.BucketLists.into_lists.Given as goal

-- the lists so far
abbrev pub invariant-loop-chunks : goal.invariant-loop-chunks
invariant-loop-chunks g l = record {
  made : map items_of l.all.items ≡ l.yielded;
  whole : l.yielded ++ l.chunks-iterator.rest.items ≡ l.fn.self.1;
}
