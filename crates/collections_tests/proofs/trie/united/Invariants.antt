use Rattle.std.proofs.Common.{◌≡◌, ◌∷◌, [], replicate}
use Rattle.collections_tests.proofs.TrieUnited.{two}
use Rattle.collections_tests.proofs.trie.united.Given as goal

-- the map of bucket 0, and the empty maps so far
abbrev pub invariant-loop : goal.invariant-loop
invariant-loop l = l.subs.items ≡ two ∷ replicate l.counter []
