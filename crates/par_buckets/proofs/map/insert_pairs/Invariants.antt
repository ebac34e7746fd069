use Rattle.std.proofs.Common.{◌≡◌, ◌++◌, ◌+◌, ◌≤◌, length}
use Rattle.std.specs.List.{IsDistinct}
use Rattle.std.specs.Map.{keys_of}
use Rattle.par_buckets.specs.Values.{insert_entries}
use Rattle.par_buckets.proofs.map.insert_pairs.Given as goal

-- the pairs so far were inserted
abbrev pub invariant-loop-key : goal.invariant-loop-key
invariant-loop-key g l = record {
  inserted : l.trie ≡ insert_entries g.K.PartialEq.eq l.fn.trie l.yielded;
  whole : l.yielded ++ l.key-iterator.rest.items ≡ l.fn.pairs.items;
  distinct : IsDistinct g.K.PartialEq.eq (keys_of l.fn.trie) → IsDistinct g.K.PartialEq.eq (keys_of l.trie);
  small : length l.trie ≤ length l.fn.trie + length l.yielded;
}
