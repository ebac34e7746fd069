-- Counts that only rise, and stay at the last value of a u64.
use Rattle.std.specs.Prelude.{ℕ, ◌+◌, ◌-◌, ◌≤◌, ◌^◌, min}

-- the count once `more` was added: it stays at the last value of a u64
abbrev pub raised : ℕ → ℕ → ℕ
raised count more = count + min more (2 ^ 64 - 1 - count)

-- the count rose by at least `more`, or stands at its last value
abbrev pub RoseBy : ℕ → ℕ → ℕ → Type 0
RoseBy more before after = raised before more ≤ after

-- the count rose, or stands at its last value
abbrev pub Rose : ℕ → ℕ → Type 0
Rose before after = RoseBy 1 before after
