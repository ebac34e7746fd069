-- A leaf that tests its items in order, and what it did of a few of them.
use Rattle.std.specs.Prelude.{◌≡◌, ℕ, ◌+◌, ◌-◌, ◌<◌, ◌≤◌, List, [], ◌∷◌, length, map, Bool, true}
use Rattle.par_laws.specs.declared.test.Verdict.{Verdict}
use Rattle.par_laws.specs.Marks.{Clear}
use Rattle.par_task.specs.Marking.{low_flag, marks_of, halts}
use Rattle.par_task.specs.Spans.{IsSpan}
use Rattle.par_jobs.specs.declared.few.Stage.{Stage}
use Rattle.par_jobs.specs.declared.few.Stage.TheVariants.{All, Met, Out}

-- the items from lo to at were passed and none of them is marked; those up to hi are left
pub record IsScanning {X : Type 0} (source : List X) (marks : List Bool) (lo hi at : ℕ) (items : List X) : Type 0 where
  pub span : IsSpan source at items
  pub ends : at + length items ≡ hi
  pub from : lo ≤ at
  pub clear : Clear marks lo at

-- what is left of the items: the one that was met, and those after it
abbrev pub left_few : {I X : Type 0} → (I → X) → Stage I → List X → List X
left_few shown All rest = rest
left_few shown (Met x v) rest = shown x ∷ rest
left_few shown Out rest = rest

-- how many items were tested: those that were passed, and the one that was met
abbrev pub tested_few : {I : Type 0} → Stage I → ℕ → ℕ
tested_few All passed = passed
tested_few (Met x v) passed = passed + 1
tested_few Out passed = passed

-- where they ended: some were passed; or the item that was met has this verdict and does not fail; or none is left
abbrev pub IsStage : {I X : Type 0} → (I → X) → (X → Verdict) → Stage I → ℕ → List X → Type 0
IsStage shown verdict All passed rest = 0 < passed
IsStage shown verdict (Met x v) passed rest = (v ≡ verdict (shown x)) × (halts v ≡ true)
IsStage shown verdict Out passed rest = rest ≡ []

-- a few items from index from on were passed up to index at, all of which fail, and it ended so
pub record IsFew {I X : Type 0} (shown : I → X) (verdict : X → Verdict) (source : List X) (from : ℕ) (items : List X) (at : ℕ) (stage : Stage I) (rest : List X) (tested : ℕ) : Type 0 where
  pub scan : IsScanning source (marks_of low_flag (map verdict source)) from (from + length items) at (left_few shown stage rest)
  pub ended : IsStage shown verdict stage (at - from) rest
  pub tests : tested ≡ tested_few stage (at - from)
