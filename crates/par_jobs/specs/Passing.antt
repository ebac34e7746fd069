-- How far a low-flag leaf came, and what it left.
use Rattle.std.specs.Prelude.{◌≡◌, ℕ, ◌+◌, ◌<◌, ◌≤◌, ◌^◌, List, ◌∷◌, length, map, Bool, true, false}
use Rattle.par_laws.specs.declared.test.Verdict.{Verdict}
use Rattle.par_laws.specs.Marks.{Clear, stop}
use Rattle.par_signal.specs.Seen.{Flags}
use Rattle.par_task.specs.Marking.{Kind, marks_of}
use Rattle.par_task.specs.Spans.{IsSpan}
use Rattle.par_task.specs.Parts.{between}
use Rattle.par_jobs.specs.declared.low.Ended.{Ended}
use Rattle.par_jobs.specs.declared.low.Ended.TheVariants.{Whole, Halted, Past}

-- The leaf over lo..hi passed the items before at, none of which is marked, and built of them. Where it isn't whole, the
-- stop is met before or at this place.
pub record IsPassed {X K : Type 0} (built : List X → K → Type 0) (source : List X) (marks : List Bool) (lo hi at : ℕ) (kept : K) (whole : Bool) : Type 0 where
  pub from : lo ≤ at
  pub within : at ≤ hi
  pub clear : Clear marks lo at
  pub kept_is : built (between source lo at) kept
  pub all : whole ≡ true → at ≡ hi
  pub cut : whole ≡ false → stop marks ≤ at

-- the leaf passed all its items
abbrev pub is_whole : {I : Type 0} → Ended I → Bool
is_whole Whole = true
is_whole (Halted x) = false
is_whole Past = false

-- the items from the place on where a leaf ended: the one that ended it, if one did, and those that it did not take
abbrev pub left_by : {I X : Type 0} → (I → X) → Ended I → List X → List X
left_by shown Whole rest = rest
left_by shown (Halted x) rest = shown x ∷ rest
left_by shown Past rest = rest

-- these are the items of the source from at on and before hi
pub record IsLeft {X : Type 0} (source : List X) (at hi : ℕ) (items : List X) : Type 0 where
  pub span : IsSpan source at items
  pub ends : at + length items ≡ hi

-- What a leaf is given that may end early: the items of the source from lo on, in a source that is not too long; a test
-- that answers the source's verdicts and can count as many more; and a seat of signals that have the marks of these verdicts.
pub record IsGiven {X : Type 0} (kind : Kind) (source : List X) (verdict asked : X → Verdict) (lo : ℕ) (items : List X) (made : ℕ) (signals of : Flags) : Type 0 where
  pub part : IsSpan source lo items
  pub small : length source ≤ 4194304
  pub test : map asked source ≡ map verdict source
  pub marks : signals.marks ≡ marks_of kind (map verdict source)
  pub seat : of ≡ signals
  pub room : made + length items < 2 ^ 64
