-- The last item that is marked is the last that passes, where it doesn't fault.
use Rattle.std.proofs.Common.{◌≡◌, ◌∙◌, ℕ, zero, suc, ◌+◌, List, [], ◌∷◌, map, get_or, true, false, Option, None, refl, ap, sym, arith}
use Rattle.par_laws.specs.declared.test.Verdict.{Verdict}
use Rattle.par_laws.specs.declared.test.Verdict.TheVariants.{Pass, Fail, Fault}
use Rattle.par_laws.specs.Marks.{last, last_after}
use Rattle.par_lists.specs.Searches.{last_index_where, last_position, one_on, index_or_minus_one}
use Rattle.par_task.specs.Marking.{high_flag, marks_of, passes, halts}
use Rattle.par_jobs.specs.Faults.{fault_at, fault_below, faults, tried}
use Rattle.par_access.specs.Parts.{below}
use Rattle.par_access.proofs.Firsts.{same_tried, no_fault, fault_none, next_one}

one_back : (v : Verdict) (vs : List Verdict) (i : ℕ) → fault_at (v ∷ vs) (i + 1) ≡ None → fault_at vs i ≡ None
one_back v vs i e = fault_none i (get_or vs i Fail) (sym (ap faults (next_one v vs i)) ∙ no_fault (i + 1) (get_or (v ∷ vs) (i + 1) Fail) e)

last_more :
    (v : Verdict) (vs : List Verdict) (l : ℕ) (o : Option ℕ) → (fault_below vs l ≡ None → o ≡ below l) → fault_below (v ∷ vs) (last_after (halts v) l) ≡ None →
    one_on (passes v) o ≡ below (last_after (halts v) l)
last_more Pass vs zero o h f = ap (one_on true) (h refl)
last_more Fail vs zero o h f = ap (one_on false) (h refl)
last_more (Fault kind) vs zero o h f = cc
last_more v vs (suc l) o h f =
    let e : suc l + 1 ≡ suc (l + 1) = omega arith in
    ap (one_on (passes v)) (h (one_back v vs l (sym (ap (fault_below (v ∷ vs)) e) ∙ f))) ∙ ap below (sym e)

module _ {X : Type 0} (V : X → Verdict) where
  last_is : (xs : List X) → fault_below (map V xs) (last (marks_of high_flag (map V xs))) ≡ None → last_position (λ x. passes (V x)) xs ≡ below (last (marks_of high_flag (map V xs)))
  last_is [] f = refl
  last_is (x ∷ xs) f = last_more (V x) (map V xs) (last (marks_of high_flag (map V xs))) (last_position (λ x. passes (V x)) xs) (last_is xs) f

  pub last_index_is :
      (xs : List X) (h : ℕ) → h ≡ last (marks_of high_flag (map V xs)) →
      tried (fault_below (map V xs) h) (index_or_minus_one (below h)) ≡ tried (fault_below (map V xs) (last (marks_of high_flag (map V xs)))) (last_index_where (λ x. passes (V x)) xs)
  last_index_is xs h e =
      ap (λ k. tried (fault_below (map V xs) k) (index_or_minus_one (below k))) e
      ∙ same_tried (fault_below (map V xs) (last (marks_of high_flag (map V xs)))) _ _ (λ n. ap index_or_minus_one (sym (last_is xs n)))
