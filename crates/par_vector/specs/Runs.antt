-- A part of a list from a place on.
use Rattle.std.specs.Prelude.{◌≡◌, ℕ, ◌<◌, List, length, take, drop}

-- some of the items from place i on, one at least
pub record IsRun {T : Type 0} (items : List T) (i : ℕ) (run : List T) : Type 0 where
  pub some : 0 < length run
  pub same : run ≡ take (length run) (drop i items)
