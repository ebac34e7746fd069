-- The first item that is marked, and the list functions that it decides.
use Rattle.std.proofs.Common.{◌≡◌, ◌∙◌, ℕ, zero, suc, ◌+◌, ◌≤◌, inl, inr, min, List, [], ◌∷◌, ◌++◌, length, map, drop, get_or, false, cond, not, nat_lt, Option, Some, None, refl, ap, sym, arith}
use Rattle.std.specs.List.{prefix_len, position_or_len}
use Rattle.std.proofs.lemmas.Bool.{cases_lt}
use Rattle.std.proofs.lemmas.List.{length-map}
use Rattle.std.proofs.Math.ListN.{get_or-eq_default}
use Rattle.std.proofs.Math.Seq.{drop-append_seam}
use Rattle.par_lists.specs.Cuts.{segment_length}
use Rattle.par_laws.specs.declared.test.Verdict.{Verdict}
use Rattle.par_laws.specs.declared.test.Verdict.TheVariants.{Pass, Fail, Fault}
use Rattle.par_laws.specs.declared.tried.FaultAt.{FaultAt}
use Rattle.par_laws.specs.declared.tried.Tried.TheVariants.{Got}
use Rattle.par_laws.specs.Marks.{stop}
use Rattle.par_laws.specs.Verdict.{contrary}
use Rattle.par_lists.specs.Searches.{index_where, index_or_minus_one}
use Rattle.par_task.specs.Marking.{low_flag, marks_of, passes}
use Rattle.par_jobs.specs.Contrary.{contrary_stop}
use Rattle.par_jobs.specs.Faults.{fault_by, fault_at, faults, tried}

-- two answers are tried alike where they are alike or a fault stands in their place
pub same_tried : {T : Type 0} (f : Option FaultAt) (a b : T) → (f ≡ None → a ≡ b) → tried f a ≡ tried f b
same_tried None a b h = ap Got (h refl)
same_tried (Some f) a b h = refl

pub no_fault : (at : ℕ) (v : Verdict) → fault_by at v ≡ None → faults v ≡ false
no_fault at Pass e = refl
no_fault at Fail e = refl
no_fault at (Fault kind) e = cc

pub fault_none : (at : ℕ) (v : Verdict) → faults v ≡ false → fault_by at v ≡ None
fault_none at Pass e = refl
fault_none at Fail e = refl
fault_none at (Fault kind) e = cc

-- an item further on
pub next_one : (v : Verdict) (vs : List Verdict) (i : ℕ) → get_or (v ∷ vs) (i + 1) Fail ≡ get_or vs i Fail
next_one v vs i = let e : i + 1 ≡ suc i = omega arith in ap (λ k. get_or (v ∷ vs) k Fail) e

first_more :
    (v : Verdict) (vs : List Verdict) (n : ℕ) → (faults (get_or vs (stop (marks_of low_flag vs)) Fail) ≡ false → n ≡ stop (marks_of low_flag vs)) →
    faults (get_or (v ∷ vs) (stop (marks_of low_flag (v ∷ vs))) Fail) ≡ false → cond (not (passes v)) (1 + n) 0 ≡ stop (marks_of low_flag (v ∷ vs))
first_more Pass vs n h f = refl
first_more Fail vs n h f = let e = h (sym (ap faults (next_one Fail vs (stop (marks_of low_flag vs)))) ∙ f) in omega (arith, e)
first_more (Fault kind) vs n h f = cc

module _ {X : Type 0} (V : X → Verdict) where
  -- where the first marked item doesn't fault, it is the first that passes
  first_is : (xs : List X) → faults (get_or (map V xs) (stop (marks_of low_flag (map V xs))) Fail) ≡ false → position_or_len (λ x. passes (V x)) xs ≡ stop (marks_of low_flag (map V xs))
  first_is [] f = refl
  first_is (x ∷ xs) f = first_more (V x) (map V xs) (position_or_len (λ x. passes (V x)) xs) (first_is xs) f

  pub index_is :
      (xs : List X) (s : ℕ) → s ≡ stop (marks_of low_flag (map V xs)) →
      tried (fault_at (map V xs) s) (index_or_minus_one (cond (nat_lt s (length xs)) (Some s) None)) ≡ tried (fault_at (map V xs) (stop (marks_of low_flag (map V xs)))) (index_where (λ x. passes (V x)) xs)
  index_is xs s e =
      ap (λ k. tried (fault_at (map V xs) k) (index_or_minus_one (cond (nat_lt k (length xs)) (Some k) None))) e
      ∙ same_tried (fault_at (map V xs) (stop (marks_of low_flag (map V xs)))) _ _
      (λ n. ap (λ k. index_or_minus_one (cond (nat_lt k (length xs)) (Some k) None)) (sym (first_is xs (no_fault (stop (marks_of low_flag (map V xs))) _ n))))

module _ {X : Type 0} (V : X → Verdict) where
  -- past the end no item faults
  past_end : (xs : List X) (i : ℕ) → length xs ≤ i → fault_at (map V xs) i ≡ None
  past_end xs i h = let l : length (map V xs) ≤ i = omega (arith, length-map xs V, h) in ap (fault_by i) (get_or-eq_default (map V xs) Fail {n = i} l)

  pub segment_fault : (xs : List X) (place first k : ℕ) → first ≡ min place (length xs) → fault_at (map V xs) (first + k) ≡ fault_at (map V xs) (place + k)
  segment_fault xs place first k e =
      elim (cases_lt place (length xs)) [
        | inl lt ↦ let m : first ≡ place = omega (arith, e, lt) in ap (λ i. fault_at (map V xs) (i + k)) m
        | inr ge ↦ let a : length xs ≤ first + k = omega (arith, e, ge) in let b : length xs ≤ place + k = omega (arith, ge) in past_end xs (first + k) a ∙ sym (past_end xs (place + k) b)
      ]

-- to drop a number of items that is cut off at the length is to drop that number
pub drop_cut : {X : Type 0} (xs : List X) (place first : ℕ) → first ≡ min place (length xs) → drop first xs ≡ drop place xs
drop_cut [] zero zero e = refl
drop_cut [] (suc p) zero e = refl
drop_cut [] p (suc f) e = absurd (omega (arith, e))
drop_cut (x ∷ xs) zero zero e = refl
drop_cut (x ∷ xs) zero (suc f) e = absurd (omega (arith, e))
drop_cut (x ∷ xs) (suc p) zero e = absurd (omega (arith, e))
drop_cut (x ∷ xs) (suc p) (suc f) e = let d : f ≡ min p (length xs) = omega (arith, e) in drop_cut xs p f d

-- the rest of a list that is cut at that place
pub rest_is : {X : Type 0} (xs before rest : List X) (place first : ℕ) → first ≡ min place (length xs) → xs ≡ before ++ rest → length before ≡ min first (length xs) → rest ≡ drop place xs
rest_is xs before rest place first e joined count =
    let n : length before ≡ first = omega (arith, e, count) in
    sym (ap (λ v. drop (length before) v) joined ∙ drop-append_seam before rest) ∙ (ap (λ k. drop k xs) n ∙ drop_cut xs place first e)

module _ {X : Type 0} (V : X → Verdict) where
  pub segment_is :
      (xs rest : List X) (place first count : ℕ) → first ≡ min place (length xs) → rest ≡ drop place xs → count ≡ stop (marks_of low_flag (map (λ x. contrary (V x)) rest)) →
      tried (fault_at (map V xs) (first + count)) count
      ≡ tried (fault_at (map V xs) (place + segment_length (λ x. passes (V x)) place xs)) (segment_length (λ x. passes (V x)) place xs)
  segment_is xs rest place first count e r s =
      let n : count ≡ segment_length (λ x. passes (V x)) place xs = s ∙ (contrary_stop V rest ∙ ap (λ v. prefix_len (λ x. passes (V x)) v) r) in
      ap (λ f. tried f count) (segment_fault V xs place first count e) ∙ ap (λ k. tried (fault_at (map V xs) (place + k)) k) n
