-- What the calls tell of their leaves.
use Rattle.std.specs.Prelude.{List, map, length}
use Rattle.par_laws.specs.declared.test.Verdict.{Verdict}
use Rattle.par_laws.specs.declared.test.Verdict.TheVariants.{Fail}
use Rattle.par_task.specs.Marking.{Kind, marks_of}
use Rattle.par_task.specs.Manners.{Manner, IsRunBy}
use Rattle.par_task.specs.declared.audit.Leaf.{Leaf}

-- the leaves are those of a run of that manner over these items with that test
abbrev pub IsRunOver : {X : Type 0} → Kind → (X → Verdict) → List X → Manner → List Leaf → Type 0
IsRunOver kind verdict items manner leaves = IsRunBy manner kind (marks_of kind (map verdict items)) (length items) leaves

-- the verdict of a call without a test
abbrev pub untested : {X : Type 0} → X → Verdict
untested x = Fail
