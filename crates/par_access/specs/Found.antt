-- What a search may find. Scala: `find` gives some element that passes, not always the first.
use Rattle.std.specs.Prelude.{◌≡◌, ℕ, List, false, Option, Some, None}
use Rattle.std.specs.List.{list_any}
use Rattle.par_laws.specs.declared.test.Verdict.{Verdict}
use Rattle.par_laws.specs.declared.tried.Tried.{Tried}
use Rattle.par_laws.specs.Marks.{IsMarked}
use Rattle.par_task.specs.Marking.{abort_flag, marks_of, passes}
use Rattle.par_jobs.specs.Faults.{fault_of, tried}

-- the index of an item that passes, or None where none does
abbrev pub IsPlaceFound : List Verdict → Option ℕ → Type 0
IsPlaceFound verdicts None = list_any passes verdicts ≡ false
IsPlaceFound verdicts (Some i) = IsMarked (marks_of abort_flag verdicts) i

-- what `find` answers: such an index or None, or the fault of the call
pub record IsFound (verdicts : List Verdict) (answer : Tried (Option ℕ)) : Type 0 where
  pub found : Option ℕ
  pub place : IsPlaceFound verdicts found
  pub answer_is : answer ≡ tried (fault_of abort_flag verdicts) found
