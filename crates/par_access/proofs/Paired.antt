-- The pairs of two lists of one length.
use Rattle.std.proofs.Common.{◌≡◌, ◌∙◌, ℕ, ◌≤◌, min, List, [], ◌++◌, length, length-append, append-nil, map, Bool, true, false, cond, nat_eq, refl, ap, sym, arith}
use Rattle.std.specs.List.{zip, list_all}
use Rattle.std.proofs.lemmas.Bool.{eqb-true}
use Rattle.std.proofs.lemmas.List.{nil_from_length}
use Rattle.std.proofs.lemmas.Slice.Zip.{length-zip}
use Rattle.par_laws.specs.declared.test.Verdict.{Verdict}
use Rattle.par_laws.specs.declared.tried.Tried.{Tried}
use Rattle.par_laws.specs.declared.tried.Tried.TheVariants.{Got}
use Rattle.par_task.specs.Marking.{abort_flag}
use Rattle.par_jobs.specs.Faults.{fault_of, tried}
use Rattle.par_access.specs.Pairs.{even_pairs, same_elements}

-- the first part of a list that is cut at its end
whole_is : {X : Type 0} (xs before rest : List X) → xs ≡ before ++ rest → length before ≡ length xs → before ≡ xs
whole_is xs before rest joined e =
    let none : rest ≡ [] = nil_from_length rest (let l = ap length joined in omega (arith, l, e, length-append before rest)) in
    sym (joined ∙ (ap (λ v. before ++ v) none ∙ append-nil before))

module _ {X Y : Type 0} (xs left left' : List X) (ys right right' : List Y) (jx : xs ≡ left ++ left') (jy : ys ≡ right ++ right') where
  paired : (b : Bool) → nat_eq (length xs) (length ys) ≡ b → length left ≡ min (cond b (length xs) 0) (length xs) → length right ≡ min (cond b (length xs) 0) (length ys) → zip left right ≡ cond b (zip xs ys) []
  paired true e cl cr =
      let even : length xs ≡ length ys = eqb-true (length xs) (length ys) e in
      ap (λ v. zip v right) (whole_is xs left left' jx (omega (arith, cl))) ∙ ap (λ v. zip xs v) (whole_is ys right right' jy (omega (arith, cr, even)))
  paired false e cl cr = ap (λ v. zip v right) (nil_from_length left (omega (arith, cl)))

  pub paired_is :
      length left ≡ min (cond (nat_eq (length xs) (length ys)) (length xs) 0) (length xs) → length right ≡ min (cond (nat_eq (length xs) (length ys)) (length xs) 0) (length ys) →
      zip left right ≡ even_pairs xs ys
  paired_is cl cr = paired (nat_eq (length xs) (length ys)) refl cl cr

module _ {X Y : Type 0} (p : X × Y → Bool) (W : X × Y → Verdict) (pairs : List (X × Y)) where
  if_alike : (b : Bool) (all : Tried Bool) → all ≡ tried (fault_of abort_flag (map W (cond b pairs []))) (list_all p (cond b pairs [])) → cond b all (Got false) ≡ tried (fault_of abort_flag (map W (cond b pairs []))) (cond b (list_all p pairs) false)
  if_alike true all e = e
  if_alike false all e = refl

pub same_is :
    {X Y : Type 0} (p : X × Y → Bool) (W : X × Y → Verdict) (xs : List X) (ys : List Y) (all : Tried Bool) → all ≡ tried (fault_of abort_flag (map W (even_pairs xs ys))) (list_all p (even_pairs xs ys)) →
    cond (nat_eq (length xs) (length ys)) all (Got false) ≡ tried (fault_of abort_flag (map W (even_pairs xs ys))) (same_elements p xs ys)
same_is p W xs ys all e = if_alike p W (zip xs ys) (nat_eq (length xs) (length ys)) all e

pub few_pairs : {X Y : Type 0} (xs : List X) (ys : List Y) (n : ℕ) → length xs ≤ n → length (zip xs ys) ≤ n
few_pairs xs ys n h = omega (arith, length-zip xs ys, h)
