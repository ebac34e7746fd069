use Rattle.std.proofs.Common.{◌∙◌, ap, sym, subst, length, [], ◌∷◌, ◌++◌, arith, ℕ, List}
use Rattle.std.specs.Prelude.{ℤ}
use Rattle.par_laws.specs.Hash.{int_hash}
use Rattle.par_index.specs.Entries.{joined, AreBuckets}
use Rattle.par_trie.specs.Buckets.{bucket_of_hash}
use Rattle.collections_tests.proofs.TrieUnited.{two_buckets, two_room, length_empty, one_more}
use Rattle.collections_tests.proofs.trie.united.Goals as goal

pub from_buckets-requires-clause-count : goal.from_buckets-requires-clause-count
from_buckets-requires-clause-count c = omega (arith, ap length c.loop.invariant, length_empty c.loop.counter)

pub from_buckets-requires-clause-buckets : goal.from_buckets-requires-clause-buckets
from_buckets-requires-clause-buckets c = subst (λ (maps : List (List (ℤ × ℕ))). AreBuckets (λ k. bucket_of_hash (int_hash k)) maps) (sym c.loop.invariant) (two_buckets c.loop.counter)

pub from_buckets-requires-clause-room : goal.from_buckets-requires-clause-room
from_buckets-requires-clause-room c = omega (arith, ap (λ (maps : List (List (ℤ × ℕ))). length (joined maps)) c.loop.invariant, two_room c.loop.counter)

pub loop-preserved : goal.loop-preserved
loop-preserved c = c.in_ok-push-2.ensures.items ∙ (ap (λ (es : List (ℤ × ℕ)). c.loop.subs.items ++ es ∷ []) c.new.ensures ∙ one_more c.loop.subs.items c.loop.counter c.loop.invariant)
