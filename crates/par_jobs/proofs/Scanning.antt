-- A leaf that tests its items in order: where it stands, and what it owes at each way out.
use Rattle.std.proofs.Common.{◌≡◌, ℕ, ◌+◌, ◌≤◌, ◌<◌, ◌⊎◌, inl, inr, Bool, true, false, List, ◌∷◌, length, map, take, drop, get_or, refl, ap, sym, ◌∙◌, subst, arith}
use Rattle.std.proofs.lemmas.Bool.{false≢true}
use Rattle.std.proofs.lemmas.List.{get_or-drop, get_or-take, get_or-map, length-map, drop-drop, drop-take}
use Rattle.par_laws.specs.declared.test.Verdict.{Verdict}
use Rattle.par_laws.specs.declared.test.Verdict.TheVariants.{Fail}
use Rattle.par_laws.specs.Marks.{IsMarked, Clear, stop}
use Rattle.par_signal.specs.Seen.{Seen}
use Rattle.par_signal.specs.Values.{IsSet}
use Rattle.par_signal.specs.declared.abort.Abort.{Abort}
use Rattle.par_task.specs.Marking.{Kind, low_flag, abort_flag, marks_of, is_mark}
use Rattle.par_task.specs.Spans.{IsSpan}
use Rattle.par_task.specs.Leaves.{EndsMarked, IsReadAgain}
use Rattle.par_task.specs.Seats.{IsLater, IsFresh, IsLeafOf}
use Rattle.par_task.proofs.Stops.{marked_below, stop_least, clear_join, clear_one}
use Rattle.par_signal.specs.Calls.{aborts}
use Rattle.par_jobs.specs.Steps.{IsUnset, IsGoingOn}
use Rattle.par_jobs.specs.Few.{IsScanning}

module _ {X : Type 0} where
  pub span_head : (source : List X) (at : ℕ) (x : X) (rest : List X) (d : X) → IsSpan source at (x ∷ rest) → get_or source at d ≡ x
  span_head source at x rest d s =
      let e = ap (λ v. get_or v 0 d) s.same in
      let z : at + 0 ≡ at = omega arith in
      let h : 0 < length (x ∷ rest) = omega arith in
      sym (e ∙ (get_or-take (length (x ∷ rest)) (drop at source) 0 d h ∙ (get_or-drop at source 0 d ∙ ap (λ k. get_or source k d) z)))

  pub span_rest : (source : List X) (at : ℕ) (x : X) (rest : List X) → IsSpan source at (x ∷ rest) → IsSpan source (at + 1) rest
  span_rest source at x rest s =
      let e : length (x ∷ rest) ≡ 1 + length rest = omega arith in
      record {
        within = omega (arith, s.within);
        same = ap (λ v. drop 1 v) s.same ∙ (ap (λ k. drop 1 (take k (drop at source))) e ∙ (drop-take 1 (length rest) (drop at source) ∙ ap (λ v. take (length rest) v) (drop-drop 1 at source)));
      }

module _ {X : Type 0} (V : X → Verdict) (source : List X) (verdicts : List Verdict) (same : map V source ≡ verdicts) where
  pub verdict_at : (at : ℕ) (x : X) (rest : List X) → IsSpan source at (x ∷ rest) → get_or verdicts at Fail ≡ V x
  verdict_at at x rest s =
      let h : at < length source = omega (arith, s.within) in
      sym (ap (λ v. get_or v at Fail) same) ∙ (get_or-map V source at x Fail h ∙ ap V (span_head source at x rest x s))

  pub mark_at : (kind : Kind) (at : ℕ) (x : X) (rest : List X) → IsSpan source at (x ∷ rest) → get_or (marks_of kind verdicts) at false ≡ is_mark kind (V x)
  mark_at kind at x rest s =
      let h : at < length verdicts = omega (arith, s.within, ap length same, length-map source V) in
      get_or-map (is_mark kind) verdicts at Fail false h ∙ ap (is_mark kind) (verdict_at at x rest s)

pub scan_begins : {X : Type 0} (source : List X) (marks : List Bool) (lo : ℕ) (items : List X) → IsSpan source lo items → IsScanning source marks lo (lo + length items) lo items
scan_begins source marks lo items s = record { span = s; ends = refl; from = omega arith; clear = λ k a b. absurd (omega arith) }

pub scan_next : {X : Type 0} (source : List X) (marks : List Bool) (lo hi at : ℕ) (x : X) (rest : List X) → IsScanning source marks lo hi at (x ∷ rest) → get_or marks at false ≡ false → IsScanning source marks lo hi (at + 1) rest
scan_next source marks lo hi at x rest s u = record {
  span = span_rest source at x rest s.span;
  ends = omega (arith, s.ends);
  from = omega (arith, s.from);
  clear = clear_join marks lo at (at + 1) s.clear (clear_one marks at u);
}

-- a scan goes on where another ended
pub scan_join : {X : Type 0} (source : List X) (marks : List Bool) (lo hi at to : ℕ) (items left : List X) → IsScanning source marks lo hi at items → IsScanning source marks at (at + length items) to left → IsScanning source marks lo hi to left
scan_join source marks lo hi at to items left p q = record {
  span = q.span;
  ends = omega (arith, p.ends, q.ends);
  from = omega (arith, p.from, q.from);
  clear = clear_join marks lo at to p.clear q.clear;
}

not_last : (marks : List Bool) (lo c : ℕ) → Clear marks lo (lo + c) → EndsMarked marks lo c → ⊥
not_last marks lo c clear m = false≢true (sym (clear m.0 m.2 (omega (arith, m.1))) ∙ m.3)

-- a read of the abort flag that found it not set, or none, is later
pub unset_later : (old new : Seen) → IsUnset old new → IsLater old new
unset_later old new r = record { of = r.of; low = omega (arith, r.low); high = omega (arith, r.high); abort = λ s. absurd (r.unset s); alone = λ a. r.alone ∙ a }

pub going_later : (old new : Seen) → IsGoingOn old new → IsLater old new
going_later old new r = record { of = r.of; low = omega (arith, r.low); high = omega (arith, r.high); abort = r.set; alone = λ a. r.alone ∙ a }

pub unset_going : (old new : Seen) → IsUnset old new → IsGoingOn old new
unset_going old new r = record { of = r.of; low = r.low; high = r.high; abort = λ _. r.abort; set = λ s. absurd (r.unset s); alone = r.alone }

pub going_join : (a b c : Seen) → IsGoingOn a b → IsGoingOn b c → IsGoingOn a c
going_join a b c p q = record {
  of = q.of ∙ p.of;
  low = q.low ∙ p.low;
  high = q.high ∙ p.high;
  abort = λ s. q.abort (p.abort s);
  set = λ s. q.set (p.set s);
  alone = q.alone ∙ p.alone;
}

-- an abort is later
pub abort_later : (old new : Seen) (i : ℕ) (a : Abort) → new ≡ aborts old i a → IsSet new.abort → IsLater old new
abort_later old new i a e set = record {
  of = ap (λ (v : Seen). v.of) e;
  low = omega (arith, ap (λ (v : Seen). v.low) e);
  high = omega (arith, ap (λ (v : Seen). v.high) e);
  abort = λ _. set;
  alone = λ s. ap (λ (v : Seen). v.alone) e ∙ s;
}

-- such a seat stays fresh
pub going_fresh : (old new : Seen) → IsGoingOn old new → IsFresh old → IsFresh new
going_fresh old new r f = record { low = r.low ∙ (f.low ∙ ap (λ v. length v.marks) (sym r.of)); abort = r.abort f.abort }

pub later_join : (a b c : Seen) → IsLater a b → IsLater b c → IsLater a c
later_join a b c p q = record {
  of = q.of ∙ p.of;
  low = omega (arith, p.low, q.low);
  high = omega (arith, p.high, q.high);
  abort = λ s. q.abort (p.abort s);
  alone = λ s. q.alone (p.alone s);
}

-- ways out of a leaf that reads the abort flag
module _ (marks : List Bool) (lo hi n : ℕ) (old new : Seen) (n_is : n ≡ length marks) (within : hi ≤ n) where
  -- after the last item
  pub abort_ends : (c : ℕ) → ¬ IsSet old.abort → lo + c ≡ hi → Clear marks lo hi → (old.alone ≡ true → IsFresh old → IsFresh new) → IsLeafOf abort_flag marks lo hi old new n c
  abort_ends c unset e clear fresh = record {
    lawful = record {
      flagged = inl n_is;
      tests = record {
        skipped = λ h. omega arith;
        scanned = λ h. record { within = omega arith; clear = λ k a b. clear k a (omega arith); ended = inl e };
      };
    };
    heeds = λ s. absurd (unset s);
    found = λ m. absurd (not_last marks lo c (subst (λ v. Clear marks lo v) (sym e) clear) m);
    full = λ a f. record { ended = inl e; stays = λ _. fresh a f };
  }

  -- at a marked item
  pub abort_finds : (c at : ℕ) → ¬ IsSet old.abort → at + 1 ≡ lo + c → lo ≤ at → at < hi → Clear marks lo at → IsMarked marks at → IsSet new.abort → IsLeafOf abort_flag marks lo hi old new n c
  abort_finds c at unset e from before clear m set = record {
    lawful = record {
      flagged = inl n_is;
      tests = record {
        skipped = λ h. absurd (omega arith);
        scanned = λ h. record { within = omega arith; clear = λ k a b. clear k a (omega arith); ended = inr (inl (at, e, from, m)) };
      };
    };
    heeds = λ s. absurd (unset s);
    found = λ _. set;
    full = λ a f. record { ended = inr (at, e, from, m); stays = λ all. absurd (false≢true (sym (all at from before) ∙ m)) };
  }

  -- where the flag was read again and is set
  pub abort_breaks : (c i : ℕ) → ¬ IsSet old.abort → IsReadAgain c → lo + c ≤ hi → Clear marks lo (lo + c) → IsMarked marks i → IsSet new.abort → (old.alone ≡ true → IsFresh old → ⊥) → IsLeafOf abort_flag marks lo hi old new n c
  abort_breaks c i unset br w clear m set never = record {
    lawful = record {
      flagged = inl n_is;
      tests = record {
        skipped = λ h. absurd (omega (arith, br.0));
        scanned = λ h. record { within = w; clear = λ k a b. clear k a (omega arith); ended = inr (inr (br, omega (arith, stop_least marks i m, marked_below marks i m))) };
      };
    };
    heeds = λ s. absurd (unset s);
    found = λ _. set;
    full = λ a f. absurd (never a f);
  }

  -- where the flag was set before
  pub abort_skips : (i : ℕ) → IsMarked marks i → IsSet new.abort → (old.alone ≡ true → IsFresh old → ⊥) → IsLeafOf abort_flag marks lo hi old new 0 0
  abort_skips i m set never = record {
    lawful = record {
      flagged = inr (refl, omega (arith, stop_least marks i m, marked_below marks i m));
      tests = record { skipped = λ h. refl; scanned = λ h. absurd (omega arith) };
    };
    heeds = λ s. refl;
    found = λ _. set;
    full = λ a f. absurd (never a f);
  }

-- ways out of a leaf that reads the low flag
module _ (marks : List Bool) (lo hi flag : ℕ) (old new : Seen) (flag_is : (flag ≡ length marks) ⊎ IsMarked marks flag) (seen : flag ≤ old.low) where
  pub low_skips : flag ≤ lo → (old.alone ≡ true → IsFresh old → lo ≡ hi × IsFresh new) → IsLeafOf low_flag marks lo hi old new flag 0
  low_skips h full = record {
    lawful = record { flagged = flag_is; tests = record { skipped = λ _. refl; scanned = λ k. absurd (omega arith) } };
    heeds = seen;
    found = λ s e g m. absurd (omega arith);
    full = λ a f. let r = full a f in record { ended = inl (omega (arith, r.0)); stays = λ _. r.1 };
  }

  pub low_ends : (c : ℕ) → lo + c ≡ hi → Clear marks lo hi → (flag ≤ lo → c ≡ 0) → (old.alone ≡ true → IsFresh old → IsFresh new) → IsLeafOf low_flag marks lo hi old new flag c
  low_ends c e clear skip fresh = record {
    lawful = record {
      flagged = flag_is;
      tests = record { skipped = skip; scanned = λ h. record { within = omega arith; clear = λ k a b. clear k a (omega arith); ended = inl e } };
    };
    heeds = seen;
    found = λ s k g m. absurd (not_last marks lo c (subst (λ v. Clear marks lo v) (sym e) clear) (s, k, g, m));
    full = λ a f. record { ended = inl e; stays = λ _. fresh a f };
  }

  pub low_finds : (c at : ℕ) → lo < flag → at + 1 ≡ lo + c → lo ≤ at → at < hi → Clear marks lo at → IsMarked marks at → new.low ≤ at → IsLeafOf low_flag marks lo hi old new flag c
  low_finds c at some e from before clear m set = record {
    lawful = record {
      flagged = flag_is;
      tests = record { skipped = λ h. absurd (omega arith); scanned = λ h. record { within = omega arith; clear = λ k a b. clear k a (omega arith); ended = inr (inl (at, e, from, m)) } };
    };
    heeds = seen;
    found = λ s k g l. omega arith;
    full = λ a f. record { ended = inr (at, e, from, m); stays = λ all. absurd (false≢true (sym (all at from before) ∙ m)) };
  }

  -- where the low flag was read again and is at most the next index
  pub low_breaks : (c : ℕ) → lo < flag → IsReadAgain c → lo + c ≤ hi → Clear marks lo (lo + c) → stop marks ≤ lo + c → (old.alone ≡ true → IsFresh old → ⊥) → IsLeafOf low_flag marks lo hi old new flag c
  low_breaks c some br w clear past never = record {
    lawful = record {
      flagged = flag_is;
      tests = record { skipped = λ h. absurd (omega arith); scanned = λ h. record { within = w; clear = λ k a b. clear k a (omega arith); ended = inr (inr (br, past)) } };
    };
    heeds = seen;
    found = λ s k g m. absurd (not_last marks lo c clear (s, k, g, m));
    full = λ a f. absurd (never a f);
  }
