-- Which part is good over lo..hi, family by family. All speak of the source's list, its verdicts and its marks alone.
use Rattle.std.specs.Prelude.{◌≡◌, ℕ, ◌+◌, ◌-◌, ◌<◌, ◌≤◌, min, List, ◌++◌, length, take, drop, Bool, true, false, slice_index_or}
use Rattle.std.specs.List.{filter}
use Rattle.par_laws.specs.declared.test.Verdict.{Verdict}
use Rattle.par_laws.specs.declared.test.Verdict.TheVariants.{Pass, Fail, Fault}
use Rattle.par_laws.specs.Marks.{IsMarked, Clear, stop, last}

-- the items from lo on and before hi
abbrev pub between : {X : Type 0} → List X → ℕ → ℕ → List X
between xs lo hi = take (hi - lo) (drop lo xs)

-- no item of lo..hi faults
abbrev pub Sound : List Verdict → ℕ → ℕ → Type 0
Sound verdicts lo hi = (k : ℕ) → lo ≤ k → k < hi → (kind : ℕ) → slice_index_or verdicts k Fail ≡ Fault kind → ⊥

-- the least index of lo..hi whose verdict is a fault, and the kind of that fault
pub record IsLeastFault (verdicts : List Verdict) (lo hi at kind : ℕ) : Type 0 where
  pub from : lo ≤ at
  pub before : at < hi
  pub fault : slice_index_or verdicts at Fail ≡ Fault kind
  pub sound : Sound verdicts lo at

-- A low-flag job that ends at the stop: where its items are not all past the stop, the end is the stop or hi, and whole
-- says that the stop isn't met before hi.
pub record IsEnd (marks : List Bool) (lo hi end : ℕ) (whole : Bool) : Type 0 where
  pub at : lo ≤ stop marks → end ≡ min hi (stop marks)
  pub whole_is : lo ≤ stop marks → whole ≡ true → hi ≤ stop marks
  pub cut : lo ≤ stop marks → whole ≡ false → stop marks ≤ hi

-- A low-flag job that keeps the items before the stop: what it built is built from at most hi - lo items, and where not
-- all its items are past the stop, from those before its end.
pub record IsFront {X K : Type 0} (built : List X → K → Type 0) (source : List X) (marks : List Bool) (lo hi : ℕ) (kept : K) (end : ℕ) (whole : Bool) : Type 0 where
  pub taken : List X
  pub few : lo + length taken ≤ hi
  pub built_is : built taken kept
  pub front : lo ≤ stop marks → taken ≡ between source lo (min hi (stop marks))
  pub ends : IsEnd marks lo hi end whole

-- A low-flag job that keeps both sides of the stop: the first is built from the items of lo..hi before its end, and the
-- second from those from its end on. Where the part is whole its end is hi, so that the second is built from no item; and
-- where not all its items are past the stop, its end is the stop or hi.
pub record IsSpanned {X K : Type 0} (built : List X → K → Type 0) (source : List X) (marks : List Bool) (lo hi : ℕ) (prefix suffix : K) (end : ℕ) (whole : Bool) : Type 0 where
  pub from : lo ≤ end
  pub within : end ≤ hi
  pub prefix_is : built (between source lo end) prefix
  pub suffix_is : built (between source end hi) suffix
  pub no_suffix : whole ≡ true → end ≡ hi
  pub ends : IsEnd marks lo hi end whole

-- An abort job that found nothing: no item of lo..hi is marked, and none faults.
pub record IsNowhere (verdicts : List Verdict) (marks : List Bool) (lo hi : ℕ) : Type 0 where
  pub sound : Sound verdicts lo hi
  pub clear : Clear marks lo hi

-- An abort job that found a fault: no item of lo..hi is marked, and this is the least fault.
pub record IsFaulty (verdicts : List Verdict) (marks : List Bool) (lo hi at kind : ℕ) : Type 0 where
  pub fault : IsLeastFault verdicts lo hi at kind
  pub clear : Clear marks lo hi

-- A job with a high flag: where no mark stands past hi, h is one above the last marked index of lo..hi, or 0.
pub record IsLastIn (marks : List Bool) (lo hi h : ℕ) : Type 0 where
  pub found : last marks ≤ hi → lo < last marks → h ≡ last marks
  pub none : last marks ≤ lo → h ≡ 0

-- A job that tests every item: none of lo..hi faults, and what was built is built from those that pass and those that fail.
pub record IsSifted {X A B : Type 0} (passes fails : X → Bool) (passing : List X → A → Type 0) (failing : List X → B → Type 0) (source : List X) (verdicts : List Verdict) (lo hi : ℕ) (a : A) (b : B) : Type 0 where
  pub sound : Sound verdicts lo hi
  pub passed : passing (filter passes (between source lo hi)) a
  pub failed : failing (filter fails (between source lo hi)) b

-- A job with no test: what was built is built from the items of lo..hi.
abbrev pub IsGathered : {X K : Type 0} → (List X → K → Type 0) → List X → ℕ → ℕ → K → Type 0
IsGathered built source lo hi kept = built (between source lo hi) kept
