-- How a plan runs a job.
use Rattle.std.specs.Prelude.{ℕ}
use Rattle.par_task.specs.Manners.{Manner}

-- by so many workers, cut by that level
abbrev pub planned : ℕ → ℕ → Manner
planned workers level = record { workers = workers; level = level }
