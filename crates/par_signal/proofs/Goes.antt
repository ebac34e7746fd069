-- How one step moves the flags and what its seat has seen: facts about one seat alone.
use Rattle.std.proofs.Common.{◌≡◌, ℕ, ◌<◌, ◌≤◌, ◌⊎◌, inl, Bool, true, false, true≢false, List, length, ◌||◌, refl, sym, subst, arith}
use Rattle.par_signal.specs.declared.abort.Abort.{Abort}
use Rattle.par_signal.specs.declared.abort.Abort.TheVariants.{Memory}
use Rattle.par_signal.specs.Values.{IsLow, IsHigh, IsAbort, MayFollow, memory_word}
use Rattle.par_signal.specs.Seen.{Sight, Note}
use Rattle.par_signal.specs.Calls.{ReadsLow, ReadsHigh, ReadsAbort, left_of, right_of, joined}
use Rattle.par_signal.specs.Rule.{Standing, IsNamed, Agrees}
use Rattle.par_signal.proofs.Values.{low_min, high_max, greater_is, follows_same, follows_greater}

-- the flags go from f to g, and what the seat has seen from v to w
pub record Goes (marks : List Bool) (f : Standing) (v : Sight (List Bool)) (g : Standing) (w : Sight (List Bool)) : Type 0 where
  pub falls : g.low ≤ f.low
  pub rises : f.high ≤ g.high
  pub follows : MayFollow f.abort g.abort
  pub named : IsNamed marks g.low g.high g.abort
  pub agrees : Agrees marks g w
  pub alone : w.alone ≡ true → v.alone ≡ true
  pub calls : v.called ≡ true → w.called ≡ true
  pub called : g.abort ≡ Memory → (f.abort ≡ Memory) ⊎ (w.called ≡ true)

-- what a step finds: the flags name marked indexes, and the seat agrees with them
pub record Finds (v : Sight (List Bool)) (f : Standing) : Type 0 where
  pub few : length v.of < memory_word
  pub named : IsNamed v.of f.low f.high f.abort
  pub agrees : Agrees v.of f v

or_left : (a b : Bool) → a ≡ true → (a || b) ≡ true
or_left a b e = subst (λ (x : Bool). (x || b) ≡ true) (sym e) refl

pub or_right : (a b : Bool) → b ≡ true → (a || b) ≡ true
or_right true b e = refl
or_right false b e = e

module _ (v : Sight (List Bool)) (f : Standing) (found : Finds v f) where
  pub reads_low : ReadsLow v.of v f.low
  reads_low = record { falls = found.agrees.low_falls; names = found.named.low_is; alone = λ al. sym (found.agrees.alone al).0 }

  pub reads_high : ReadsHigh v.of v f.high
  reads_high = record { rises = found.agrees.high_rises; names = found.named.high_is; alone = λ al. sym (found.agrees.alone al).1 }

  pub reads_abort : ReadsAbort v.of v f.abort
  reads_abort = record { follows = found.agrees.abort_follows; names = found.named.abort_is; alone = λ al. sym (found.agrees.alone al).2 }

  -- low goes to x, and the seat has seen x
  pub sets_low : (x : ℕ) (k : ℕ) (notes : List Note) → x ≤ f.low → IsLow v.of x → Goes v.of f v (record f { low = x }) (record v { low = x; steps = k; notes = notes })
  sets_low x k notes less is = record {
    falls = less;
    rises = omega arith;
    follows = follows_same f.abort;
    named = record { low_is = is; high_is = found.named.high_is; abort_is = found.named.abort_is };
    agrees = record {
      marks_are = refl;
      low_falls = omega arith;
      high_rises = found.agrees.high_rises;
      abort_follows = found.agrees.abort_follows;
      named = record { low_is = is; high_is = found.agrees.named.high_is; abort_is = found.agrees.named.abort_is };
      alone = λ al. (refl, (found.agrees.alone al).1, (found.agrees.alone al).2);
    };
    alone = λ e. e;
    calls = λ e. e;
    called = λ e. inl e;
  }

  -- high goes to x, and the seat has seen x
  pub sets_high : (x : ℕ) (k : ℕ) (notes : List Note) → f.high ≤ x → IsHigh v.of x → Goes v.of f v (record f { high = x }) (record v { high = x; steps = k; notes = notes })
  sets_high x k notes more is = record {
    falls = omega arith;
    rises = more;
    follows = follows_same f.abort;
    named = record { low_is = found.named.low_is; high_is = is; abort_is = found.named.abort_is };
    agrees = record {
      marks_are = refl;
      low_falls = found.agrees.low_falls;
      high_rises = omega arith;
      abort_follows = found.agrees.abort_follows;
      named = record { low_is = found.agrees.named.low_is; high_is = is; abort_is = found.agrees.named.abort_is };
      alone = λ al. ((found.agrees.alone al).0, refl, (found.agrees.alone al).2);
    };
    alone = λ e. e;
    calls = λ e. e;
    called = λ e. inl e;
  }

  -- abort goes to a, and the seat has seen a
  pub sets_abort : (a : Abort) (c : Bool) (k : ℕ) (notes : List Note) → MayFollow f.abort a → IsAbort v.of a → (v.called ≡ true → c ≡ true) → (a ≡ Memory → (f.abort ≡ Memory) ⊎ (c ≡ true))
      → Goes v.of f v (record f { abort = a }) (record v { abort = a; called = c; steps = k; notes = notes })
  sets_abort a c k notes follows is calls called = record {
    falls = omega arith;
    rises = omega arith;
    follows = follows;
    named = record { low_is = found.named.low_is; high_is = found.named.high_is; abort_is = is };
    agrees = record {
      marks_are = refl;
      low_falls = found.agrees.low_falls;
      high_rises = found.agrees.high_rises;
      abort_follows = follows_same a;
      named = record { low_is = found.agrees.named.low_is; high_is = found.agrees.named.high_is; abort_is = is };
      alone = λ al. ((found.agrees.alone al).0, (found.agrees.alone al).1, refl);
    };
    alone = λ e. e;
    calls = calls;
    called = called;
  }

  -- no flag moves
  rests : (w : Sight (List Bool)) → Agrees v.of f w → (w.alone ≡ true → v.alone ≡ true) → (v.called ≡ true → w.called ≡ true) → Goes v.of f v f w
  rests w agrees alone calls = record { falls = omega arith; rises = omega arith; follows = follows_same f.abort; named = found.named; agrees = agrees; alone = alone; calls = calls; called = λ e. inl e }

  pub right_agrees : Agrees v.of f (right_of v)
  right_agrees = record { marks_are = refl; low_falls = found.agrees.low_falls; high_rises = found.agrees.high_rises; abort_follows = found.agrees.abort_follows; named = found.agrees.named; alone = λ al. absurd (true≢false (sym al)) }

  pub goes_left : Goes v.of f v f (left_of v)
  goes_left = rests (left_of v) (record { marks_are = refl; low_falls = found.agrees.low_falls; high_rises = found.agrees.high_rises; abort_follows = found.agrees.abort_follows; named = found.agrees.named; alone = λ al. absurd (true≢false (sym al)) })
      (λ al. absurd (true≢false (sym al))) (λ e. e)

  pub goes_joined : (u : Sight (List Bool)) → Agrees v.of f u → Goes v.of f v f (joined v u)
  goes_joined u other = rests (joined v u) (record {
    marks_are = refl;
    low_falls = let x = found.agrees.low_falls in let y = other.low_falls in omega arith;
    high_rises = let x = found.agrees.high_rises in let y = other.high_rises in omega arith;
    abort_follows = follows_greater v.abort u.abort f.abort found.agrees.abort_follows other.abort_follows;
    named = record {
      low_is = low_min v.of v.low u.low found.agrees.named.low_is other.named.low_is;
      high_is = high_max v.of v.high u.high found.agrees.named.high_is other.named.high_is;
      abort_is = greater_is v.of v.abort u.abort found.agrees.named.abort_is other.named.abort_is;
    };
    alone = λ al. absurd (true≢false (sym al));
  }) (λ al. absurd (true≢false (sym al))) (or_left v.called u.called)
