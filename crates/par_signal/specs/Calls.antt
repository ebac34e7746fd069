-- What each call reads, and what its seat has seen afterwards.
use Rattle.std.specs.Prelude.{◌≡◌, ℕ, ◌+◌, ◌≤◌, Bool, true, false, ◌||◌, List, [], ◌∷◌, ◌++◌, length, min, max}
use Rattle.par_signal.specs.declared.abort.Abort.{Abort}
use Rattle.par_signal.specs.declared.abort.Abort.TheVariants.{No, Memory}
use Rattle.par_signal.specs.Values.{IsLow, IsHigh, IsAbort, MayFollow, set_by, greater, word_of}
use Rattle.par_signal.specs.Seen.{Kind, load_low, load_high, load_abort, lower, raise, abort_by, abort_memory, Sight}

-- what a seat may read of low: a named value, not above what it has seen, and just that where it is alone
pub record ReadsLow {F : Type 0} (marks : List Bool) (v : Sight F) (x : ℕ) : Type 0 where
  pub falls : x ≤ v.low
  pub names : IsLow marks x
  pub alone : v.alone ≡ true → x ≡ v.low

-- what a seat may read of high: a named value, not below what it has seen, and just that where it is alone
pub record ReadsHigh {F : Type 0} (marks : List Bool) (v : Sight F) (x : ℕ) : Type 0 where
  pub rises : v.high ≤ x
  pub names : IsHigh marks x
  pub alone : v.alone ≡ true → x ≡ v.high

-- what a seat may read of abort: a named value that may follow what it has seen, and just that where it is alone
pub record ReadsAbort {F : Type 0} (marks : List Bool) (v : Sight F) (a : Abort) : Type 0 where
  pub follows : MayFollow v.abort a
  pub names : IsAbort marks a
  pub alone : v.alone ≡ true → a ≡ v.abort

module _ {F : Type 0} where
  -- the first seat has seen the number of items, 0 and No, and is alone
  abbrev pub opened : F → List Bool → Sight F
  opened f marks = record { of = f; low = length marks; high = 0; abort = No; called = false; alone = true; steps = 0; notes = [] }

  -- one more step is noted: its kind, its word and the value read
  abbrev pub noted : Sight F → Kind → ℕ → ℕ → Sight F
  noted v kind word x = record v { steps = v.steps + 1; notes = v.notes ++ record { kind = kind; word = word; value = x } ∷ [] }

  -- a load of low, high or abort keeps what it read
  abbrev pub sees_low : Sight F → ℕ → Sight F
  sees_low v x = record (noted v load_low 0 x) { low = x }

  abbrev pub sees_high : Sight F → ℕ → Sight F
  sees_high v x = record (noted v load_high 1 x) { high = x }

  abbrev pub sees_abort : Sight F → Abort → Sight F
  sees_abort v a = record (noted v load_abort 2 (word_of a)) { abort = a }

  -- `lower` to i, having read x, keeps the lesser
  abbrev pub lowers : Sight F → ℕ → ℕ → Sight F
  lowers v i x = record (noted v lower 0 x) { low = min x i }

  -- `raise` to h, having read x, keeps the greater
  abbrev pub raises : Sight F → ℕ → ℕ → Sight F
  raises v h x = record (noted v raise 1 x) { high = max x h }

  -- `abort` by i, having read a, keeps By i where it read No, and else what it read
  abbrev pub aborts : Sight F → ℕ → Abort → Sight F
  aborts v i a = record (noted v abort_by 2 (word_of a)) { abort = set_by a i }

  -- `abort_memory`, having read a, keeps Memory, and the call
  abbrev pub aborts_memory : Sight F → Abort → Sight F
  aborts_memory v a = record (noted v abort_memory 2 (word_of a)) { abort = Memory; called = true }

  -- after a split the old seat has seen what it had, and is not alone
  abbrev pub left_of : Sight F → Sight F
  left_of v = record v { alone = false }

  -- the new seat has seen the same, and has called nothing and taken no step
  abbrev pub right_of : Sight F → Sight F
  right_of v = record v { called = false; alone = false; steps = 0; notes = [] }

  -- a seat that another was joined into has seen the lesser low, the greater high and the greater abort, and is not alone
  abbrev pub joined : Sight F → Sight F → Sight F
  joined v w = record v { low = min v.low w.low; high = max v.high w.high; abort = greater v.abort w.abort; called = v.called || w.called; alone = false }
