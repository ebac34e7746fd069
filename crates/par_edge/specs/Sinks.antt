-- What contracts see of a sink, and what its calls do to that.
use Rattle.std.specs.Prelude.{◌≡◌, ℕ, ◌≤◌, ◌<◌, List, ◌++◌, length, take, Option, option_map}
use Rattle.par_edge.specs.Count.{Rose}

-- a sink: the bytes written so far, where it tells them, and how many faults it counted
pub record SinkState : Type 0 where
  pub written : Option (List ℕ)
  pub faults : ℕ

-- what is written once these bytes were appended, where it is told
abbrev pub appended : List ℕ → Option (List ℕ) → Option (List ℕ)
appended bytes written = option_map (λ earlier. earlier ++ bytes) written

-- the bytes were appended, and no fault was taken back
pub record Appends (before after : SinkState) (bytes : List ℕ) : Type 0 where
  pub written : after.written ≡ appended bytes before.written
  pub faults : before.faults ≤ after.faults

-- a write that took the first `count` bytes of the piece, and at least one if there is any
pub record Takes (before after : SinkState) (piece : List ℕ) (count : ℕ) : Type 0 where
  pub fits : count ≤ length piece
  pub moves : 0 < length piece → 0 < count
  pub appends : Appends before after (take count piece)

-- a write that failed: its fault was counted, and nothing was appended
pub record FailsToWrite (before after : SinkState) : Type 0 where
  pub rose : Rose before.faults after.faults
  pub written : after.written ≡ before.written

-- a whole write that failed: a fault was counted, and the first `count` bytes were appended
pub record AppendsPart (before after : SinkState) (bytes : List ℕ) : Type 0 where
  pub count : ℕ
  pub written : after.written ≡ appended (take count bytes) before.written
  pub rose : Rose before.faults after.faults
