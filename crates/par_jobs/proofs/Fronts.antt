-- The front of a span: how it grows by an item, and where it ends.
use Rattle.std.proofs.Common.{◌≡◌, ℕ, ◌+◌, ◌-◌, ◌≤◌, ◌<◌, ◌⊎◌, inl, inr, min, Bool, true, List, [], ◌∷◌, ◌++◌, length, take, drop, get_or, refl, ap, sym, ◌∙◌, subst, arith}
use Rattle.std.proofs.lemmas.Bool.{cases_lt, false≢true}
use Rattle.std.proofs.lemmas.List.{length-take, length-drop, take_more, get_or-drop}
use Rattle.par_laws.specs.Marks.{IsMarked, Clear, stop}
use Rattle.par_signal.specs.Seen.{Seen}
use Rattle.par_signal.specs.Values.{IsSet}
use Rattle.par_signal.specs.Calls.{sees_low, lowers}
use Rattle.par_task.specs.Spans.{IsSpan}
use Rattle.par_task.specs.Marking.{low_flag}
use Rattle.par_task.specs.Seats.{IsLater, IsFresh, IsLeafOf}
use Rattle.par_task.specs.Parts.{between, IsFront}
use Rattle.par_task.proofs.Stops.{bool_cases, stop_marked, stop_least, stop_within}
use Rattle.par_jobs.specs.Steps.{IsLowRead}
use Rattle.par_jobs.specs.Passing.{IsPassed}
use Rattle.par_jobs.proofs.Scanning.{span_head}

-- the stop isn't met before the end of a clear stretch
pub not_before : (ms : List Bool) (lo at : ℕ) → Clear ms lo at → lo ≤ stop ms → at ≤ length ms → at ≤ stop ms
not_before ms lo at c h l =
    elim (cases_lt (stop ms) at) [
      | inl lt ↦ absurd (false≢true (sym (c (stop ms) h lt) ∙ stop_marked ms (omega (arith, lt))))
      | inr ge ↦ ge
    ]

-- the low flag is never under the stop
pub low_past : (ms : List Bool) (f : ℕ) → (f ≡ length ms) ⊎ IsMarked ms f → stop ms ≤ f
low_past ms f (inl e) = omega (arith, e, stop_within ms)
low_past ms f (inr m) = stop_least ms f m

pub length-between : {V : Type 0} (xs : List V) (lo at : ℕ) → length (between xs lo at) ≤ at - lo
length-between xs lo at = omega (arith, length-take (at - lo) (drop lo xs))

pub between_none : {V : Type 0} (xs : List V) (lo : ℕ) → [] ≡ between xs lo lo
between_none xs lo = let z : lo - lo ≡ 0 = omega arith in ap (λ k. take k (drop lo xs)) (sym z)

pub between_next : {X : Type 0} (xs : List X) (lo at : ℕ) (x d : X) → lo ≤ at → at < length xs → get_or xs at d ≡ x → between xs lo (at + 1) ≡ between xs lo at ++ x ∷ []
between_next xs lo at x d h l e =
    let i : ℕ = at - lo in
    let s : at + 1 - lo ≡ i + 1 = omega arith in
    let m : lo + i ≡ at = omega arith in
    let w : i < length (drop lo xs) = omega (arith, length-drop lo xs) in
    let g : get_or (drop lo xs) i d ≡ x = get_or-drop lo xs i d ∙ (ap (λ k. get_or xs k d) m ∙ e) in
    ap (λ k. take k (drop lo xs)) s ∙ (take_more (drop lo xs) i d w ∙ ap (λ v. take i (drop lo xs) ++ v ∷ []) g)

-- one item more of a scan
pub between_more : {X : Type 0} (source : List X) (lo at : ℕ) (x : X) (rest : List X) → lo ≤ at → IsSpan source at (x ∷ rest) → between source lo at ++ x ∷ [] ≡ between source lo (at + 1)
between_more source lo at x rest h s = sym (between_next source lo at x x h (omega (arith, s.within)) (span_head source at x rest x s))

pub few_between : {X : Type 0} (source : List X) (lo at : ℕ) (x : X) (rest : List X) → IsSpan source at (x ∷ rest) → length source ≤ 4194304 → length (between source lo at) < 4194304
few_between source lo at x rest s h = omega (arith, length-between source lo at, s.within, h)

-- what a leaf passed is a good front
pub front_of :
    {X K : Type 0} (built : List X → K → Type 0) (source : List X) (marks : List Bool) (lo hi at : ℕ) (kept : K) (whole : Bool) →
    hi ≤ length marks → IsPassed built source marks lo hi at kept whole → IsFront built source marks lo hi kept at whole
front_of built source marks lo hi at kept whole w p =
    let met : lo ≤ stop marks → at ≡ min hi (stop marks) =
    λ s. let f = not_before marks lo at p.clear s (omega (arith, p.within, w)) in
    elim (bool_cases whole) [
      | inl t ↦ omega (arith, p.all t, f)
      | inr u ↦ omega (arith, p.cut u, f, p.within)
    ] in
    record {
      taken = between source lo at;
      few = omega (arith, length-between source lo at, p.from, p.within);
      built_is = p.kept_is;
      front = λ s. ap (λ v. between source lo v) (met s);
      ends = record {
        at = met;
        whole_is = λ s t. let f = not_before marks lo at p.clear s (omega (arith, p.within, w)) in omega (arith, f, p.all t);
        cut = λ s u. omega (arith, p.cut u, p.within);
      };
    }

pub low_read_later : (old new : Seen) → IsLowRead old new → IsLater old new
low_read_later old new r = record { of = r.of; low = r.low; high = omega (arith, r.high); abort = λ s. subst IsSet (sym r.abort) s; alone = λ a. r.alone ∙ a }

pub low_read_join : (a b c : Seen) → IsLowRead a b → IsLowRead b c → IsLowRead a c
low_read_join a b c p q = record {
  of = q.of ∙ p.of;
  low = omega (arith, p.low, q.low);
  high = q.high ∙ p.high;
  abort = q.abort ∙ p.abort;
  alone = q.alone ∙ p.alone;
  still = λ a. q.still (p.alone ∙ a) ∙ p.still a;
}

pub low_read_none : (a : Seen) → IsLowRead a a
low_read_none a = record { of = refl; low = omega arith; high = refl; abort = refl; alone = refl; still = λ _. refl }

-- a seat that is alone stays fresh
pub low_read_fresh : (old new : Seen) → IsLowRead old new → old.alone ≡ true → IsFresh old → IsFresh new
low_read_fresh old new r a f = record {
  low = r.still a ∙ (f.low ∙ ap (λ v. length v.marks) (sym r.of));
  abort = subst (λ v. ¬ IsSet v) (sym r.abort) f.abort;
}

-- what a load of the low flag tells
pub low_read : (old new : Seen) (x : ℕ) → new ≡ sees_low old x → x ≤ old.low → (old.alone ≡ true → x ≡ old.low) → IsLowRead old new
low_read old new x e h a = subst (λ (v : Seen). IsLowRead old v) (sym e) (record { of = refl; low = h; high = refl; abort = refl; alone = refl; still = a })

-- and a lowering
pub lower_later : (old new : Seen) (i x : ℕ) → new ≡ lowers old i x → new.low ≤ old.low → IsLater old new
lower_later old new i x e h = record {
  of = ap (λ (v : Seen). v.of) e;
  low = h;
  high = omega (arith, ap (λ (v : Seen). v.high) e);
  abort = λ s. subst IsSet (sym (ap (λ (v : Seen). v.abort) e)) s;
  alone = λ a. ap (λ (v : Seen). v.alone) e ∙ a;
}

-- a leaf that went on after its flag was read is a leaf from before the read on
pub leaf_after_read : (marks : List Bool) (lo hi : ℕ) (old mid new : Seen) (flag c : ℕ) → IsLowRead old mid → IsLeafOf low_flag marks lo hi mid new flag c → IsLeafOf low_flag marks lo hi old new flag c
leaf_after_read marks lo hi old mid new flag c r l = record {
  lawful = l.lawful;
  heeds = omega (arith, l.heeds, r.low);
  found = l.found;
  full = λ a f. l.full (r.alone ∙ a) (low_read_fresh old mid r a f);
}

-- the items of a span are those between its ends
pub span_between : {X : Type 0} (source : List X) (lo : ℕ) (items : List X) → IsSpan source lo items → items ≡ between source lo (lo + length items)
span_between source lo items s = let n : length items ≡ lo + length items - lo = omega arith in s.same ∙ ap (λ k. take k (drop lo source)) n
