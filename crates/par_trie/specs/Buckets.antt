-- The buckets of a trie: the digits of its level 0.
use Rattle.std.specs.Prelude.{ℕ, ◌%◌}
use Rattle.par_laws.specs.Hash.{mixed}

-- the bucket of a hash: the low five bits of the mixed hash
abbrev pub bucket_of_hash : ℕ → ℕ
bucket_of_hash hash = mixed hash % 32
