-- Why a step stops.
use Rattle.std.specs.Prelude.{◌≡◌, List, Result, Err}
use Rattle.par_rows.specs.declared.row.Row.{Row}
use Rattle.par_transform.specs.declared.stop.FlatStop.{FlatStop}
use Rattle.par_transform.specs.declared.stop.FlatStop.TheVariants as flats
use Rattle.pipe_stages.specs.declared.stop.StepStop.{StepStop}
use Rattle.pipe_stages.specs.declared.stop.StepStop.TheVariants.{Fault, TooMany, Memory}

-- why a flat map stopped
abbrev pub of_flat : FlatStop → StepStop
of_flat flats.TooMany = TooMany
of_flat flats.Memory = Memory

-- the step stopped as it has to, or for want of memory
abbrev pub StopsAs : Result (List Row) StepStop → StepStop → Type 0
StopsAs wanted (Fault at) = wanted ≡ Err (Fault at)
StopsAs wanted TooMany = wanted ≡ Err TooMany
StopsAs wanted Memory = Unit {0}
