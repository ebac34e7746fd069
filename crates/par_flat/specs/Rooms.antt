-- The rooms of a table, and its buckets. A table of room m has 32 * 2 ^ m slots, in 32 blocks of 2 ^ m.
use Rattle.std.specs.Prelude.{◌≡◌, ℕ, ◌*◌, ◌/◌, ◌^◌, ◌<◌, ◌≤◌}
use Rattle.par_laws.specs.Hash.{mixed}

-- the bucket of a hash: the high five bits of the mixed hash
abbrev pub bucket_of_hash : ℕ → ℕ
bucket_of_hash hash = mixed hash / 134217728

-- the least room in which n keys take at most half of the slots
pub record IsRoomFor (n room : ℕ) : Type 0 where
  pub enough : 4 * n ≤ 64 * 2 ^ room
  pub least : (m : ℕ) → 4 * n ≤ 64 * 2 ^ m → room ≤ m
