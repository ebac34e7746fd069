-- The fold of what may fault is the fold of the values, or the first fault.
use Rattle.std.proofs.Common.{◌≡◌, ◌∙◌, ℕ, zero, suc, ◌+◌, ◌*◌, ◌^◌, ◌%◌, ◌<◌, ◌≤◌, List, [], ◌∷◌, length, map, get_or, Option, Some, None, refl, sym, ap, subst, arith, cond, false, true}
use Rattle.std.specs.List.{fold}
use Rattle.std.proofs.lemmas.List.Folds.{fold-map}
use Rattle.std.proofs.lemmas.List.{length-map}
use Rattle.par_laws.specs.Guarded.{count_of, guarded_map, guarded_one, joined_guarded}
use Rattle.par_laws.specs.Wrapping.{wrapped_count}
use Rattle.par_laws.specs.Marks.{stop}
use Rattle.par_laws.specs.declared.guard.Made.{Made}
use Rattle.par_laws.specs.declared.guard.Made.TheVariants as made
use Rattle.par_laws.specs.declared.guard.Guarded.{Guarded}
use Rattle.par_laws.specs.declared.guard.Guarded.TheVariants.{Fine, Fault}
use Rattle.par_laws.specs.declared.test.Verdict.{Verdict}
use Rattle.par_laws.specs.declared.test.Verdict.TheVariants as v
use Rattle.par_laws.specs.declared.tried.FaultAt.{FaultAt}
use Rattle.par_jobs.specs.Faults.{fault_at, fault_by, faults, least_fault}
use Rattle.pipe_answers.specs.Makes.{made_fault, made_values, made_verdict}

-- a fault one place further on
abbrev further : Option FaultAt → Option FaultAt
further None = None
further (Some f) = Some (record { at = f.at + 1; kind = f.kind })

further_by : (at : ℕ) (w : Verdict) → fault_by (at + 1) w ≡ further (fault_by at w)
further_by at v.Pass = refl
further_by at v.Fail = refl
further_by at (v.Fault kind) = refl

next_one : (w : Verdict) (ws : List Verdict) (i : ℕ) → get_or (w ∷ ws) (i + 1) v.Fail ≡ get_or ws i v.Fail
next_one w ws i = let e : i + 1 ≡ suc i = omega arith in ap (λ k. get_or (w ∷ ws) k v.Fail) e

-- the fault of more items
least_more : (ws : List Verdict) → least_fault (v.Pass ∷ ws) ≡ further (least_fault ws)
least_more ws = ap (fault_by (stop (map faults ws) + 1)) (next_one v.Pass ws (stop (map faults ws))) ∙ further_by (stop (map faults ws)) (get_or ws (stop (map faults ws)) v.Fail)

small_count : (n : ℕ) → n + 1 < 2 ^ 64 → wrapped_count n 1 ≡ n + 1
small_count n h = omega (arith, h)

small_zero : (n : ℕ) → n < 2 ^ 64 → wrapped_count n 0 ≡ n
small_zero n h = omega (arith, h)

-- the fold of the values from this one on; or the first fault, where n items were before
abbrev pub FoldsTo : {X : Type 0} → (X → X → X) → ℕ → X → List (Made X) → Guarded X → Type 0
FoldsTo join n x ms (Fine count value) = (made_fault ms ≡ None) × (value ≡ fold join x (made_values ms))
FoldsTo join n x ms (Fault count at kind) = (i : ℕ) × (at ≡ n + i) × (i < length ms) × (made_fault ms ≡ Some (record { at = i; kind = kind }))

module _ {X : Type 0} (join : X → X → X) where
  abbrev adding : Guarded X → Made X → Guarded X
  adding g m = joined_guarded join g (guarded_one m)

  stays : (count at kind : ℕ) (ms : List (Made X)) → (c : ℕ) × (fold adding (Fault count at kind) ms ≡ Fault c at kind)
  stays count at kind [] = (count, refl)
  stays count at kind (m ∷ ms) = stays (wrapped_count count (count_of (guarded_one m))) at kind ms

  more_values : (n : ℕ) (x w : X) (ms : List (Made X)) (g : Guarded X) → FoldsTo join (n + 1) (join x w) ms g → FoldsTo join n x (made.Value w ∷ ms) g
  more_values n x w ms (Fine count value) h = (least_more (map made_verdict ms) ∙ ap further h.0, h.1)
  more_values n x w ms (Fault count at kind) h =
      (h.0 + 1, omega (arith, h.1), omega (arith, h.2), least_more (map made_verdict ms) ∙ ap further h.3)

  folds : (n : ℕ) (x : X) (ms : List (Made X)) → n + length ms < 2 ^ 64 → FoldsTo join n x ms (fold adding (Fine n x) ms)
  folds n x [] h = (refl, refl)
  folds n x (made.Value w ∷ ms) h =
      let small : n + 1 < 2 ^ 64 = omega (arith, h) in
      let rest : n + 1 + length ms < 2 ^ 64 = omega (arith, h) in
      subst (λ k. FoldsTo join n x (made.Value w ∷ ms) (fold adding (Fine k (join x w)) ms)) (sym (small_count n small))
      (more_values n x w ms (fold adding (Fine (n + 1) (join x w)) ms) (folds (n + 1) (join x w) ms rest))
  folds n x (made.Fault kind ∷ ms) h =
      let s = stays (wrapped_count n 1) (wrapped_count n 0) kind ms in
      let small : n < 2 ^ 64 = omega (arith, h) in
      subst (FoldsTo join n x (made.Fault kind ∷ ms)) (sym s.1)
      (0, small_zero n small ∙ omega arith, omega arith, refl)

  -- what a guarded fold answers
  pub guarded_fold : {R : Type 0} (f : R → Made X) (x : X) (rs : List R) → length rs ≤ 4194304 → FoldsTo join 0 x (map f rs) (fold (λ g r. joined_guarded join g (guarded_one (f r))) (Fine 0 x) rs)
  guarded_fold f x rs h = subst (FoldsTo join 0 x (map f rs)) (fold-map adding f (Fine 0 x) rs) (folds 0 x (map f rs) (omega (arith, h, length-map rs f)))

  -- the same, of a value as contracts see it
  pub folded_so :
      {R V : Type 0} (f : R → Made X) (x : X) (rs items : List R) (shown : V → X) (folded seen : Guarded V) → items ≡ rs → length rs ≤ 4194304 → folded ≡ seen →
      guarded_map shown folded ≡ fold (λ g r. joined_guarded join g (guarded_one (f r))) (Fine 0 x) items → FoldsTo join 0 x (map f rs) (guarded_map shown seen)
  folded_so f x rs items shown folded seen same small is e =
      subst (λ g. FoldsTo join 0 x (map f rs) (guarded_map shown g)) is
      (subst (FoldsTo join 0 x (map f rs)) (sym (e ∙ ap (fold (λ g r. joined_guarded join g (guarded_one (f r))) (Fine 0 x)) same)) (guarded_fold f x rs small))
