-- Why reading stopped: for the refusal, or for want of memory.
use Rattle.std.specs.Prelude.{◌≡◌, ℕ, List, Result, Err}
use Rattle.par_rows.specs.declared.row.Row.{Row}
use Rattle.pipe_data.specs.declared.stop.Flaw.{Flaw}
use Rattle.pipe_data.specs.declared.stop.DataStop.{DataStop}
use Rattle.pipe_data.specs.declared.stop.DataStop.TheVariants as stops
use Rattle.pipe_data.specs.declared.record.RecordStop.{RecordStop}
use Rattle.pipe_data.specs.declared.record.RecordStop.TheVariants as record_stops

abbrev pub Stops : Result (List Row) DataStop → DataStop → Type 0
Stops r stops.Memory = Unit {0}
Stops r stop = r ≡ Err stop

-- the same of one record
abbrev pub StopsRecord : Result Row Flaw → RecordStop → Type 0
StopsRecord r (record_stops.Flaw flaw) = r ≡ Err flaw
StopsRecord r record_stops.Memory = Unit {0}

-- the same of one record with its number
abbrev pub StopsRow : ℕ → Result Row Flaw → DataStop → Type 0
StopsRow n r (stops.Flawed m flaw) = (m ≡ n) × (r ≡ Err flaw)
StopsRow n r stops.TooMany = ⊥
StopsRow n r stops.Memory = Unit {0}
