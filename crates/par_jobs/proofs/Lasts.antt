-- The last marked item of a span.
use Rattle.std.proofs.Common.{◌≡◌, ℕ, zero, suc, ◌+◌, ◌≤◌, ◌<◌, inl, inr, true, false, Bool, List, [], ◌∷◌, get_or, refl, ap, sym, ◌∙◌, subst, arith}
use Rattle.std.proofs.lemmas.Bool.{cases_lt, false≢true}
use Rattle.par_laws.specs.Marks.{IsMarked, Clear, last, last_after}
use Rattle.par_signal.specs.Seen.{Seen}
use Rattle.par_signal.specs.Values.{IsHigh, IsSet}
use Rattle.par_signal.specs.Calls.{sees_high, raises}
use Rattle.par_task.specs.Marking.{high_flag}
use Rattle.par_task.specs.Seats.{IsLater, IsGreatest, IsLeafOf}
use Rattle.par_task.specs.Parts.{IsLastIn}
use Rattle.par_task.proofs.Stops.{clear_join, clear_one}

-- last is one above the greatest marked index of lo..at, or 0
pub record IsBest (marks : List Bool) (lo at best : ℕ) : Type 0 where
  pub none : best ≡ 0 → Clear marks lo at
  pub some : (i : ℕ) → best ≡ i + 1 → IsGreatest marks lo at i

pub best_begins : (marks : List Bool) (lo : ℕ) → IsBest marks lo lo 0
best_begins marks lo = record { none = λ e k a b. absurd (omega arith); some = λ i e. absurd (omega (arith, e)) }

pub best_marked : (marks : List Bool) (lo at : ℕ) → lo ≤ at → get_or marks at false ≡ true → IsBest marks lo (at + 1) (at + 1)
best_marked marks lo at h m = record {
  none = λ e. absurd (omega (arith, e));
  some = λ i e. let f : i ≡ at = omega (arith, e) in record {
    from = omega (arith, f);
    before = omega (arith, f);
    marked = subst (λ k. IsMarked marks k) (sym f) m;
    none_above = λ k a b. absurd (omega (arith, a, b, f));
  };
}

pub best_stays : (marks : List Bool) (lo at best : ℕ) → lo ≤ at → get_or marks at false ≡ false → IsBest marks lo at best → IsBest marks lo (at + 1) best
best_stays marks lo at best h u b = record {
  none = λ e. clear_join marks lo at (at + 1) (b.none e) (clear_one marks at u);
  some = λ i e. let g = b.some i e in record {
    from = g.from;
    before = omega (arith, g.before);
    marked = g.marked;
    none_above = clear_join marks (i + 1) at (at + 1) g.none_above (clear_one marks at u);
  };
}

pub best_next :
    (marks : List Bool) (lo at best new : ℕ) (halt : Bool) → lo ≤ at → get_or marks at false ≡ halt → (halt ≡ true → new ≡ at + 1) → (halt ≡ false → new ≡ best) → IsBest marks lo at best → IsBest marks lo (at + 1) new
best_next marks lo at best new true h m some none b = subst (IsBest marks lo (at + 1)) (sym (some refl)) (best_marked marks lo at h m)
best_next marks lo at best new false h m some none b = subst (IsBest marks lo (at + 1)) (sym (none refl)) (best_stays marks lo at best h m b)

after_some : (b : Bool) (k : ℕ) → b ≡ true → 1 ≤ last_after b k
after_some true zero e = omega arith
after_some false zero e = absurd (false≢true e)
after_some b (suc k) e = omega arith

after_more : (b : Bool) (k i : ℕ) → i + 1 ≤ k → suc i + 1 ≤ last_after b k
after_more b zero i h = absurd (omega arith)
after_more b (suc k) i h = omega arith

-- no marked index is past the last
pub last_above : (ms : List Bool) (i : ℕ) → IsMarked ms i → i + 1 ≤ last ms
last_above [] i m = absurd (false≢true m)
last_above (b ∷ ms) zero m = let h = after_some b (last ms) m in omega (arith, h)
last_above (b ∷ ms) (suc i) m = after_more b (last ms) i (last_above ms i m)

marked_by : (b : Bool) (ms : List Bool) (n k : ℕ) → last ms ≡ n → last_after b n ≡ k + 1 → ((j : ℕ) → last ms ≡ j + 1 → IsMarked ms j) → IsMarked (b ∷ ms) k
marked_by true ms zero k h e r = let z : k ≡ 0 = omega (arith, e) in subst (λ j. IsMarked (true ∷ ms) j) (sym z) refl
marked_by false ms zero k h e r = absurd (omega (arith, e))
marked_by b ms (suc n) k h e r = let z : k ≡ suc n = omega (arith, e) in let f : suc n ≡ n + 1 = omega arith in subst (λ j. IsMarked (b ∷ ms) j) (sym z) (r n (h ∙ f))

-- and the last one is marked
pub last_marked : (ms : List Bool) (k : ℕ) → last ms ≡ k + 1 → IsMarked ms k
last_marked [] k e = absurd (omega (arith, e))
last_marked (b ∷ ms) k e = marked_by b ms (last ms) k refl e (λ j h. last_marked ms j h)

some_last : (n : ℕ) → 0 < n → (k : ℕ) × (n ≡ k + 1)
some_last zero h = absurd (omega arith)
some_last (suc k) h = (k, omega arith)

-- the greatest of a span is no less than any marked one
best_top : (marks : List Bool) (lo hi best k : ℕ) → IsBest marks lo hi best → lo ≤ k → k < hi → IsMarked marks k → k + 1 ≤ best
best_top marks lo hi zero k b h l m = absurd (false≢true (sym (b.none refl k h l) ∙ m))
best_top marks lo hi (suc i) k b h l m =
    let g = b.some i (omega arith) in
    elim (cases_lt i k) [
      | inl lt ↦ absurd (false≢true (sym (g.none_above k (omega (arith, lt)) l) ∙ m))
      | inr ge ↦ omega (arith, ge)
    ]

best_low : (marks : List Bool) (lo hi best : ℕ) → IsBest marks lo hi best → best ≤ last marks
best_low marks lo hi zero b = omega arith
best_low marks lo hi (suc i) b = let h = last_above marks i (b.some i (omega arith)).marked in omega (arith, h)

best_from : (marks : List Bool) (lo hi best : ℕ) → IsBest marks lo hi best → last marks ≤ lo → best ≡ 0
best_from marks lo hi zero b h = refl
best_from marks lo hi (suc i) b h = let g = b.some i (omega arith) in let k = last_above marks i g.marked in absurd (omega (arith, k, g.from, h))

pub best_good : (marks : List Bool) (lo hi best : ℕ) → IsBest marks lo hi best → IsLastIn marks lo hi best
best_good marks lo hi best b = record {
  found = λ w s.
      let k = some_last (last marks) (omega (arith, s)) in
      let t = best_top marks lo hi best k.0 b (omega (arith, s, k.1)) (omega (arith, w, k.1)) (last_marked marks k.0 k.1) in
      omega (arith, t, k.1, best_low marks lo hi best b);
  none = λ s. best_from marks lo hi best b s;
}

high_low : (marks : List Bool) (flag : ℕ) → IsHigh marks flag → flag ≤ last marks
high_low marks flag (inl z) = omega (arith, z)
high_low marks flag (inr m) = omega (arith, m.1, last_above marks m.0 m.2)

-- a leaf that is skipped is right where its flag is
pub skip_good : (marks : List Bool) (lo hi flag part : ℕ) → IsHigh marks flag → hi ≤ flag → (lo < hi → part ≡ flag) → (hi ≤ lo → part ≡ 0) → lo ≤ hi → IsLastIn marks lo hi part
skip_good marks lo hi flag part f h some none w = record {
  found = λ a b. let low : flag ≤ last marks = high_low marks flag f in omega (arith, some (omega (arith, a, b)), low, a, h);
  none = λ a. elim (cases_lt lo hi) [
    | inl lt ↦ let low : flag ≤ last marks = high_low marks flag f in absurd (omega (arith, low, a, h, lt))
    | inr ge ↦ none ge
  ];
}

pub high_later : (old new : Seen) (x : ℕ) → new ≡ sees_high old x → old.high ≤ x → IsLater old new
high_later old new x e h = subst (λ (v : Seen). IsLater old v) (sym e) (record { of = refl; low = omega arith; high = h; abort = λ s. s; alone = λ a. a })

pub raise_later : (old new : Seen) (h x : ℕ) → new ≡ raises old h x → old.high ≤ new.high → IsLater old new
raise_later old new h x e r = record {
  of = ap (λ (v : Seen). v.of) e;
  low = omega (arith, ap (λ (v : Seen). v.low) e);
  high = r;
  abort = λ s. subst IsSet (sym (ap (λ (v : Seen). v.abort) e)) s;
  alone = λ a. ap (λ (v : Seen). v.alone) e ∙ a;
}

-- the leaf of a job with a high flag: skipped, or whole
pub high_skips : (marks : List Bool) (lo hi flag : ℕ) (old new : Seen) → IsHigh marks flag → old.high ≤ flag → hi ≤ flag → IsLeafOf high_flag marks lo hi old new flag 0
high_skips marks lo hi flag old new f r h = record {
  lawful = record { flagged = f; skipped = λ _. refl; scanned = λ k. absurd (omega (arith, k, h)) };
  heeds = r;
  found = λ p i g. absurd (omega (arith, p));
  full = λ _ _. tt;
}

pub high_ends :
    (marks : List Bool) (lo hi flag c best : ℕ) (old new : Seen) → IsHigh marks flag → old.high ≤ flag → flag < hi → lo + c ≡ hi → IsBest marks lo hi best → ((i : ℕ) → best ≡ i + 1 → i + 1 ≤ new.high) → IsLeafOf high_flag marks lo hi old new flag c
high_ends marks lo hi flag c best old new f r h e b told = record {
  lawful = record { flagged = f; skipped = λ k. absurd (omega (arith, k, h)); scanned = λ _. e };
  heeds = r;
  found = λ p i g.
      let t = best_top marks lo hi best i b g.from (omega (arith, g.before, e)) g.marked in
      let k = some_last best (omega (arith, t)) in
      omega (arith, t, k.1, told k.0 k.1);
  full = λ _ _. tt;
}
