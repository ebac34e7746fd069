-- What all workers of a run share.
use Rattle.std.specs.Prelude.{◌≡◌, ◌≤◌, List, length, map, Bool}
use Rattle.par_laws.specs.declared.test.Verdict.{Verdict}
use Rattle.par_task.specs.Marking.{Kind, marks_of}

-- the test answers as the job says, the flags have the job's marks, and the items are few
pub record IsWorld {X : Type 0} (kind : Kind) (source : List X) (verdicts : List Verdict) (verdict : X → Verdict) (marks : List Bool) : Type 0 where
  pub test : map verdict source ≡ verdicts
  pub marks_are : marks ≡ marks_of kind verdicts
  pub small : length source ≤ 4194304
