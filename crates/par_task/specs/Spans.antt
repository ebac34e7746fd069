-- A part of the source over a span.
use Rattle.std.specs.Prelude.{◌≡◌, ℕ, ◌+◌, ◌≤◌, List, length, take, drop}

-- the items are those of the source from lo on, as many as they are
pub record IsSpan {X : Type 0} (source : List X) (lo : ℕ) (items : List X) : Type 0 where
  pub within : lo + length items ≤ length source
  pub same : items ≡ take (length items) (drop lo source)
