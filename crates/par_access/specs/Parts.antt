-- What a call answers by the part of its job.
use Rattle.std.specs.Prelude.{ℕ, Bool, not, Option, Some, None}
use Rattle.std.proofs.Common.{zero, suc}
use Rattle.par_laws.specs.declared.tried.Tried.{Tried}
use Rattle.par_laws.specs.declared.tried.Tried.TheVariants.{Got, Fault}
use Rattle.par_jobs.specs.declared.search.Sought.{Sought}
use Rattle.par_jobs.specs.declared.search.Sought.TheVariants.{Found, Fell, Nowhere}
use Rattle.par_jobs.specs.declared.sift.Sifted.{Sifted}
use Rattle.par_jobs.specs.declared.sift.Sifted.TheVariants as sifted
use Rattle.par_jobs.specs.declared.stock.Nothing.{Nothing}

-- a question of truth by a search: `found` where an item passes, the fault, or else the contrary
abbrev pub tried_by : Sought → Bool → Tried Bool
tried_by (Found i) found = Got found
tried_by (Fell fault) found = Fault fault
tried_by Nowhere found = Got (not found)

-- `find` by a search
abbrev pub place_by : Sought → Tried (Option ℕ)
place_by (Found i) = Got (Some i)
place_by (Fell fault) = Fault fault
place_by Nowhere = Got None

-- `count` by what was counted, or the fault that was met
abbrev pub counted_by : Sifted ℕ Nothing → Tried ℕ
counted_by (sifted.Got count rest) = Got count
counted_by (sifted.Fell fault) = Fault fault

-- the index below, if there is one
abbrev pub below : ℕ → Option ℕ
below zero = None
below (suc i) = Some i
