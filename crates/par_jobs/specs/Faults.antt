-- The fault of a call: which item's fault stands in the place of an answer, if any does.
use Rattle.std.specs.Prelude.{◌≡◌, ℕ, List, map, Bool, true, false, cond, Option, Some, None, slice_index_or}
use Rattle.std.proofs.Common.{zero, suc}
use Rattle.std.specs.List.{list_any}
use Rattle.par_laws.specs.declared.test.Verdict.{Verdict}
use Rattle.par_laws.specs.declared.test.Verdict.TheVariants as verdict
use Rattle.par_laws.specs.declared.tried.FaultAt.{FaultAt}
use Rattle.par_laws.specs.declared.tried.Tried.{Tried}
use Rattle.par_laws.specs.declared.tried.Tried.TheVariants.{Got, Fault}
use Rattle.par_laws.specs.Marks.{stop, last}
use Rattle.par_task.specs.Marking.{Kind, low_flag, abort_flag, high_flag, no_flag, no_test, marks_of, passes}

-- the fault that an item at that index has, if its verdict is one
abbrev pub fault_by : ℕ → Verdict → Option FaultAt
fault_by at verdict.Pass = None
fault_by at verdict.Fail = None
fault_by at (verdict.Fault kind) = Some (record { at = at; kind = kind })

-- the fault of the item at that index, if there is such an item and it faults
abbrev pub fault_at : List Verdict → ℕ → Option FaultAt
fault_at verdicts at = fault_by at (slice_index_or verdicts at verdict.Fail)

-- the fault of the item below that index, if there is such an item and it faults
abbrev pub fault_below : List Verdict → ℕ → Option FaultAt
fault_below verdicts zero = None
fault_below verdicts (suc at) = fault_at verdicts at

-- the verdict is Fault
abbrev pub faults : Verdict → Bool
faults verdict.Pass = false
faults verdict.Fail = false
faults (verdict.Fault kind) = true

-- the fault with the least index, if an item faults
abbrev pub least_fault : List Verdict → Option FaultAt
least_fault verdicts = fault_at verdicts (stop (map faults verdicts))

-- The fault of a call by the kind of its job. A search for the first item that is marked faults where that item does, and
-- one for the last likewise. A search for any item that passes has the least fault where none passes. A call that tests
-- every item has the least fault.
abbrev pub fault_of : Kind → List Verdict → Option FaultAt
fault_of low_flag verdicts = fault_at verdicts (stop (marks_of low_flag verdicts))
fault_of abort_flag verdicts = cond (list_any passes verdicts) None (least_fault verdicts)
fault_of high_flag verdicts = fault_below verdicts (last (marks_of high_flag verdicts))
fault_of no_flag verdicts = least_fault verdicts
fault_of no_test verdicts = None

-- the answer, or the fault that stands in its place
abbrev pub tried : {T : Type 0} → Option FaultAt → T → Tried T
tried None answer = Got answer
tried (Some fault) answer = Fault fault

-- the answer, of which so much holds; or the fault that stands in its place
abbrev pub IsTried : {T : Type 0} → Option FaultAt → (T → Type 0) → Tried T → Type 0
IsTried None holds (Got answer) = holds answer
IsTried None holds (Fault fault) = ⊥
IsTried (Some first) holds (Got answer) = ⊥
IsTried (Some first) holds (Fault fault) = fault ≡ first
