-- What the part of a job is good for that ran over a whole list, in terms of lists.
use Rattle.std.specs.Prelude.{◌≡◌, List, map, true, false, not, Some, None}
use Rattle.std.specs.List.{filter, list_any}
use Rattle.par_laws.specs.declared.test.Verdict.{Verdict}
use Rattle.par_laws.specs.Marks.{IsMarked}
use Rattle.par_task.specs.Marking.{abort_flag, no_flag, marks_of, passes}
use Rattle.par_jobs.specs.declared.search.Sought.{Sought}
use Rattle.par_jobs.specs.declared.search.Sought.TheVariants.{Found, Fell, Nowhere}
use Rattle.par_jobs.specs.declared.sift.Sifted.{Sifted}
use Rattle.par_jobs.specs.declared.sift.Sifted.TheVariants as sifted
use Rattle.par_jobs.specs.Faults.{faults, fault_of}

-- what was built of the items that pass and of the others, where none faults; or the fault of the call
abbrev pub IsSiftedAll : {X A B : Type 0} → (X → Verdict) → (List X → A → Type 0) → (List X → B → Type 0) → List X → Sifted A B → Type 0
IsSiftedAll verdict passing failing items (sifted.Got a b) =
    (fault_of no_flag (map verdict items) ≡ None) × passing (filter (λ x. passes (verdict x)) items) a × failing (filter (λ x. not (passes (verdict x))) items) b
IsSiftedAll verdict passing failing items (sifted.Fell fault) = fault_of no_flag (map verdict items) ≡ Some fault

-- the index of an item that passes, so that the call has no fault; or the fault of the call, where none passes; or none
-- passes and none faults
abbrev pub IsSoughtAll : List Verdict → Sought → Type 0
IsSoughtAll verdicts (Found i) = (list_any passes verdicts ≡ true) × (fault_of abort_flag verdicts ≡ None) × IsMarked (marks_of abort_flag verdicts) i
IsSoughtAll verdicts (Fell fault) = (list_any passes verdicts ≡ false) × (fault_of abort_flag verdicts ≡ Some fault)
IsSoughtAll verdicts Nowhere = (list_any passes verdicts ≡ false) × (fault_of abort_flag verdicts ≡ None) × (list_any faults verdicts ≡ false)
