-- What a step's run gives.
use Rattle.std.specs.Prelude.{◌≡◌, List, Option, Some, Result, Ok, Err}
use Rattle.std.specs.Borrow.{Bor}
use Rattle.std.specs.Global.{Vec}
use Rattle.par_combiner.specs.declared.faulted.Yield.{Yield}
use Rattle.par_combiner.specs.declared.faulted.Yield.TheVariants as yielded
use Rattle.par_laws.specs.declared.tried.Tried.{Tried}
use Rattle.par_laws.specs.declared.tried.Tried.TheVariants as tried
use Rattle.par_rows.specs.declared.row.Row.{Row}
use Rattle.par_task.specs.declared.audit.Leaf.{Leaf}
use Rattle.pipe_stages.specs.declared.stepped.Stepped.{Stepped}
use Rattle.pipe_stages.specs.declared.stepped.Stepped.TheVariants.{Picked, Made}
use Rattle.pipe_stages.specs.declared.stop.StepStop.{StepStop}
use Rattle.pipe_stages.specs.declared.stop.StepStop.TheVariants as stops
use Rattle.pipe_stages.specs.Rows.{listed}
use Rattle.pipe_stages.specs.Stages.{Answer}
use Rattle.pipe_stages.specs.Stops.{StopsAs}

abbrev pub Ran : Type 0
Ran = Result (Stepped × Option (List Leaf)) StepStop

-- the rows that are wanted with an audit that tells of them; or the stop that is wanted, or want of memory
abbrev pub Gives : Answer → (Option (List Leaf) → Type 0) → Ran → Type 0
Gives wanted audited (Ok r) = (wanted ≡ Ok (listed r.0)) × audited r.1
Gives wanted audited (Err stop) = StopsAs wanted stop

-- the rows that were picked, or the fault in their place
abbrev pub ran : Tried (Vec (Bor Row)) → List Leaf → Ran
ran (tried.Got refs) audit = Ok (Picked refs, Some audit)
ran (tried.Fault fault) audit = Err (stops.Fault fault)

-- the rows that were made, or the first fault
abbrev pub made_run : Yield (Vec Row) → List Leaf → Ran
made_run (yielded.All rows) audit = Ok (Made rows, Some audit)
made_run (yielded.Fault at kind) audit = Err (stops.Fault (record { at = at; kind = kind }))

-- the same of the rows that a test chose, or its fault
abbrev pub collected_run : Tried (Yield (Vec Row)) → List Leaf → Ran
collected_run (tried.Got all) audit = made_run all audit
collected_run (tried.Fault fault) audit = Err (stops.Fault fault)
