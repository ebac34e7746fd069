use Rattle.std.proofs.Common.{◌≡◌, ◌++◌, ◌+◌, ◌≤◌, length}
use Rattle.std.specs.List.{IsDistinct}
use Rattle.std.specs.Map.{keys_of}
use Rattle.par_index.specs.Entries.{groups_of}
use Rattle.par_buckets.specs.Values.{push_to_groups}
use Rattle.par_buckets.proofs.group.push_pairs.Given as goal

-- the pairs so far were pushed
abbrev pub invariant-loop-key : goal.invariant-loop-key
invariant-loop-key g l = record {
  pushed : groups_of l.trie ≡ push_to_groups g.K.PartialEq.eq (groups_of l.fn.trie) l.yielded;
  whole : l.yielded ++ l.key-iterator.rest.items ≡ l.fn.pairs.items;
  distinct : IsDistinct g.K.PartialEq.eq (keys_of l.fn.trie) → IsDistinct g.K.PartialEq.eq (keys_of l.trie);
  small : length l.trie ≤ length l.fn.trie + length l.yielded;
}
