-- Why a flat map stops.
use Rattle.std.specs.Prelude.{ℕ, ◌<◌}
use Rattle.par_transform.specs.declared.stop.FlatStop.{FlatStop}
use Rattle.par_transform.specs.declared.stop.FlatStop.TheVariants.{TooMany, Memory}

-- n items are more than a collection has, or memory is wanting
abbrev pub IsStop : ℕ → FlatStop → Type 0
IsStop n TooMany = 4194304 < n
IsStop n Memory = Unit {0}
