-- What a flat map says of why it stopped.
use Rattle.std.specs.Prelude.{ℕ, List, codes}
use Rattle.par_transform.specs.declared.stop.FlatStop.{FlatStop}
use Rattle.par_transform.specs.declared.stop.FlatStop.TheVariants.{TooMany, Memory}

-- the text of an error
abbrev pub stop_text : FlatStop → List ℕ
stop_text TooMany = codes "too many items"
stop_text Memory = codes "out of memory"
