use Rattle.std.proofs.Common.{◌≡◌, ◌++◌, length}
use Rattle.par_buckets.specs.Held.{joined_each}
use Rattle.par_buckets.proofs.lists.append_each.Given as goal

-- the lists so far were joined
abbrev pub invariant-loop-other : goal.invariant-loop-other
invariant-loop-other g l = record {
  at : l.i ≡ length l.yielded;
  joined : l.lists.items ≡ joined_each l.fn.lists.items l.yielded;
  whole : l.yielded ++ l.other-iterator.rest.items ≡ l.fn.others.items;
}
