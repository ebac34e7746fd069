-- Which fault of a whole list is the least one, and what a run over it found or sifted.
use Rattle.std.proofs.Common.{◌≡◌, ◌∙◌, ℕ, zero, suc, inl, inr, ◌||◌, not, cond, List, [], ◌∷◌, length, map, get_or, Bool, true, false, Some, None, refl, ap, sym, subst, arith}
use Rattle.std.specs.List.{filter, list_any}
use Rattle.std.proofs.lemmas.Bool.{cases_lt, false≢true}
use Rattle.std.proofs.lemmas.List.{length-map}
use Rattle.std.proofs.Math.ListN.{get_or-map, get_or-eq_default}
use Rattle.par_laws.specs.declared.test.Verdict.{Verdict}
use Rattle.par_laws.specs.declared.test.Verdict.TheVariants.{Pass, Fail, Fault}
use Rattle.par_laws.specs.declared.tried.FaultAt.{FaultAt}
use Rattle.par_laws.specs.Marks.{IsMarked, Clear, stop}
use Rattle.par_task.specs.Marking.{abort_flag, marks_of, passes}
use Rattle.par_task.specs.Parts.{Sound, IsLeastFault}
use Rattle.par_task.proofs.Stops.{stop_at}
use Rattle.par_jobs.specs.Faults.{fault_by, fault_at, faults, least_fault}
use Rattle.par_jobs.specs.Merges.{IsSought, IsSiftedOf}
use Rattle.par_jobs.specs.Steps.{fails}
use Rattle.par_jobs.specs.Whole.{IsSiftedAll, IsSoughtAll}
use Rattle.par_jobs.specs.declared.search.Sought.{Sought}
use Rattle.par_jobs.specs.declared.search.Sought.TheVariants.{Found, Fell, Nowhere}
use Rattle.par_jobs.specs.declared.sift.Sifted.{Sifted}
use Rattle.par_jobs.specs.declared.sift.Sifted.TheVariants as sifted
use Rattle.par_jobs.proofs.Whole.{between_all}

no_fault : (at : ℕ) (v : Verdict) → ((kind : ℕ) → v ≡ Fault kind → ⊥) → fault_by at v ≡ None
no_fault at Pass h = refl
no_fault at Fail h = refl
no_fault at (Fault kind) h = absurd (h kind refl)

faults_not : (v : Verdict) → ((kind : ℕ) → v ≡ Fault kind → ⊥) → faults v ≡ false
faults_not Pass h = refl
faults_not Fail h = refl
faults_not (Fault kind) h = absurd (h kind refl)

-- where no item faults there is no least fault
no_least : (vs : List Verdict) → Sound vs 0 (length vs) → least_fault vs ≡ None
no_least vs s =
    let at = stop (map faults vs) in
    elim (cases_lt at (length vs)) [
      | inl lt ↦ no_fault at (get_or vs at Fail) (s at (omega arith) lt)
      | inr ge ↦ ap (fault_by at) (get_or-eq_default vs Fail {n = at} ge)
    ]

-- and none of the whole list faults
none_faults : (vs : List Verdict) → Sound vs 0 (length vs) → list_any faults vs ≡ false
none_faults [] s = refl
none_faults (v ∷ vs) s =
    ap (λ b. b || list_any faults vs) (faults_not v (s 0 (omega arith) (omega arith))) ∙ none_faults vs (λ k a b. s (suc k) (omega arith) (omega (arith, b)))

-- the least fault of the whole list
the_least : (vs : List Verdict) (n : ℕ) (f : FaultAt) → IsLeastFault vs 0 n f.at f.kind → least_fault vs ≡ Some f
the_least vs n f l =
    let clear : Clear (map faults vs) 0 f.at = (λ k a b. get_or-map faults vs k Fail ∙ faults_not (get_or vs k Fail) (l.sound k a b)) in
    let mark : IsMarked (map faults vs) f.at = get_or-map faults vs f.at Fail ∙ ap faults l.fault in
    ap (λ k. fault_at vs k) (stop_at (map faults vs) f.at clear mark) ∙ ap (fault_by f.at) l.fault

or_second : (a b : Bool) → b ≡ true → (a || b) ≡ true
or_second true b e = refl
or_second false b e = e

marked_any : (vs : List Verdict) (i : ℕ) → IsMarked (marks_of abort_flag vs) i → list_any passes vs ≡ true
marked_any [] i m = absurd (false≢true m)
marked_any (v ∷ vs) zero m = ap (λ b. b || list_any passes vs) m
marked_any (v ∷ vs) (suc i) m = or_second (passes v) (list_any passes vs) (marked_any vs i m)

clear_none : (vs : List Verdict) → Clear (marks_of abort_flag vs) 0 (length vs) → list_any passes vs ≡ false
clear_none [] c = refl
clear_none (v ∷ vs) c =
    ap (λ b. b || list_any passes vs) (c 0 (omega arith) (omega arith)) ∙ clear_none vs (λ k a b. c (suc k) (omega arith) (omega (arith, b)))

sought_of : (vs : List Verdict) (s : Sought) → IsSought vs (marks_of abort_flag vs) 0 (length vs) s → IsSoughtAll vs s
sought_of vs (Found i) h = let e = marked_any vs i h in (e, ap (λ b. cond b None (least_fault vs)) e, h)
sought_of vs (Fell f) h = let e = clear_none vs h.clear in (e, ap (λ b. cond b None (least_fault vs)) e ∙ the_least vs (length vs) f h.fault)
sought_of vs Nowhere h = let e = clear_none vs h.clear in (e, ap (λ b. cond b None (least_fault vs)) e ∙ no_least vs h.sound, none_faults vs h.sound)

module _ {X : Type 0} (verdict : X → Verdict) where
  -- what a search over the whole list found
  pub sought_all : (xs : List X) (s : Sought) → IsSought (map verdict xs) (marks_of abort_flag (map verdict xs)) 0 (length xs) s → IsSoughtAll (map verdict xs) s
  sought_all xs s h = sought_of (map verdict xs) s (subst (λ n. IsSought (map verdict xs) (marks_of abort_flag (map verdict xs)) 0 n s) (sym (length-map xs verdict)) h)

  one_failing :
      (v : Verdict) (x : X) (xs ys : List X) → ((kind : ℕ) → v ≡ Fault kind → ⊥) → xs ≡ ys → cond (fails v) (x ∷ xs) xs ≡ cond (not (passes v)) (x ∷ ys) ys
  one_failing Pass x xs ys s e = e
  one_failing Fail x xs ys s e = ap (λ l. x ∷ l) e
  one_failing (Fault kind) x xs ys s e = absurd (s kind refl)

  -- where none faults, those that fail are those that don't pass
  failing_all : (xs : List X) → Sound (map verdict xs) 0 (length xs) → filter (λ x. fails (verdict x)) xs ≡ filter (λ x. not (passes (verdict x))) xs
  failing_all [] s = refl
  failing_all (x ∷ xs) s =
      one_failing (verdict x) x (filter (λ y. fails (verdict y)) xs) (filter (λ y. not (passes (verdict y))) xs) (s 0 (omega arith) (omega arith))
      (failing_all xs (λ k a b. s (suc k) (omega arith) (omega (arith, b))))

  -- what a run over the whole list sifts
  pub sifted_all :
      {A B : Type 0} (passing : List X → A → Type 0) (failing : List X → B → Type 0) (xs : List X) (p : Sifted A B) →
      IsSiftedOf verdict passing failing xs 0 (length xs) p → IsSiftedAll verdict passing failing xs p
  sifted_all passing failing xs (sifted.Got a b) s = (
    no_least (map verdict xs) (subst (λ n. Sound (map verdict xs) 0 n) (sym (length-map xs verdict)) s.sound),
    subst (λ ys. passing (filter (λ x. passes (verdict x)) ys) a) (between_all xs) s.passed,
    subst (λ ys. failing ys b) (failing_all xs s.sound) (subst (λ ys. failing (filter (λ x. fails (verdict x)) ys) b) (between_all xs) s.failed),
  )
  sifted_all passing failing xs (sifted.Fell fault) s = the_least (map verdict xs) (length xs) fault s
