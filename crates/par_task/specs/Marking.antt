-- The kinds of job, and which items of a job are marked.
use Rattle.std.specs.Prelude.{List, map, Bool, true, false}
use Rattle.par_laws.specs.declared.test.Verdict.{Verdict}
use Rattle.par_laws.specs.declared.test.Verdict.TheVariants.{Pass, Fail, Fault}

-- By which flag the leaves of a job may end early. The first marked item ends a job with a low flag, and any marked
-- item a job with an abort flag. A job with a high flag looks for the last marked item. The leaves of the other jobs
-- test all their items, or none where the job has no test.
pub data Kind : Type 0 where
  low_flag : Kind
  abort_flag : Kind
  high_flag : Kind
  no_flag : Kind
  no_test : Kind

-- the verdict is Pass
abbrev pub passes : Verdict → Bool
passes Pass = true
passes Fail = false
passes (Fault k) = false

-- the verdict is Pass or Fault
abbrev pub halts : Verdict → Bool
halts Pass = true
halts Fail = false
halts (Fault k) = true

-- whether an item of that verdict is marked
abbrev pub is_mark : Kind → Verdict → Bool
is_mark low_flag v = halts v
is_mark abort_flag v = passes v
is_mark high_flag v = halts v
is_mark no_flag v = passes v
is_mark no_test v = false

-- the marks of a job whose test answers these verdicts
abbrev pub marks_of : Kind → List Verdict → List Bool
marks_of kind verdicts = map (is_mark kind) verdicts
