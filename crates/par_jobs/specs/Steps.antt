-- What a leaf reads of a flag on its way, and the first fault that it meets.
use Rattle.std.specs.Prelude.{◌≡◌, ℕ, ◌<◌, ◌≤◌, List, Bool, true, false, Option, Some, None}
use Rattle.par_laws.specs.declared.test.Verdict.{Verdict}
use Rattle.par_laws.specs.declared.test.Verdict.TheVariants.{Pass, Fail, Fault}
use Rattle.par_laws.specs.declared.tried.FaultAt.{FaultAt}
use Rattle.par_laws.specs.Marks.{IsMarked, stop}
use Rattle.par_signal.specs.Seen.{Seen}
use Rattle.par_signal.specs.Values.{IsSet}
use Rattle.par_jobs.specs.Faults.{fault_by}

-- the first fault so far, with one verdict more
abbrev pub noted : Option FaultAt → Verdict → ℕ → Option FaultAt
noted (Some f) v at = Some f
noted None v at = fault_by at v

-- the verdict is Fail
abbrev pub fails : Verdict → Bool
fails Pass = false
fails Fail = true
fails (Fault k) = false

-- a read of the low flag changes only what was seen of it, which falls; to a seat that is alone it tells nothing new
pub record IsLowRead (old new : Seen) : Type 0 where
  pub of : new.of ≡ old.of
  pub low : new.low ≤ old.low
  pub high : new.high ≡ old.high
  pub abort : new.abort ≡ old.abort
  pub alone : new.alone ≡ old.alone
  pub still : old.alone ≡ true → new.low ≡ old.low

-- the low flag was read while items up to hi were left, and is at most at
pub record IsLowered (marks : List Bool) (old : Seen) (at hi : ℕ) : Type 0 where
  pub more : at < hi
  pub past : stop marks ≤ at
  pub by_another : old.alone ≡ true → old.low ≤ at

-- a read of the abort flag that finds it not set changes nothing that is told here
pub record IsUnset (old new : Seen) : Type 0 where
  pub unset : ¬ IsSet old.abort
  pub of : new.of ≡ old.of
  pub low : new.low ≡ old.low
  pub high : new.high ≡ old.high
  pub abort : ¬ IsSet new.abort
  pub alone : new.alone ≡ old.alone

-- a read of the abort flag that finds it set by item i
pub record IsDecided (marks : List Bool) (old new : Seen) (i : ℕ) : Type 0 where
  pub marked : IsMarked marks i
  pub set : IsSet new.abort
  pub by_another : old.alone ≡ true → ¬ IsSet old.abort → ⊥

abbrev pub IsAbortRead : List Bool → Seen → Seen → Option ℕ → Type 0
IsAbortRead marks old new None = IsUnset old new
IsAbortRead marks old new (Some i) = IsDecided marks old new i

-- what a seat that has seen no abort knows after it went on
pub record IsGoingOn (old new : Seen) : Type 0 where
  pub of : new.of ≡ old.of
  pub low : new.low ≡ old.low
  pub high : new.high ≡ old.high
  pub abort : ¬ IsSet old.abort → ¬ IsSet new.abort
  pub set : IsSet old.abort → IsSet new.abort
  pub alone : new.alone ≡ old.alone

-- the abort flag was read while items up to hi were left, and is set
pub record IsAborted (old new : Seen) (at hi : ℕ) : Type 0 where
  pub more : at < hi
  pub set : IsSet new.abort
  pub by_another : old.alone ≡ true → ¬ IsSet old.abort → ⊥
