use Rattle.std.proofs.Common.{◌≡◌, ◌++◌}
use Rattle.std.specs.List.{IsDistinct}
use Rattle.std.specs.Map.{keys_of}
use Rattle.par_index.specs.Entries.{joined}
use Rattle.par_trie.proofs.trie.HashTrie.from_buckets.Given as goal

-- the entries of the maps so far
abbrev pub invariant-loop-sub : goal.invariant-loop-sub
invariant-loop-sub g l = record {
  joined_so_far : l.union ≡ joined l.yielded;
  whole : l.yielded ++ l.sub-iterator.rest.items ≡ l.fn.subs.items;
  distinct : IsDistinct g.K.PartialEq.eq (keys_of l.union);
}
