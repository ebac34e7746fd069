-- Walks along a list.
use Rattle.std.proofs.Common.{◌≡◌, ℕ, zero, suc, ◌+◌, ◌-◌, ◌<◌, ◌≤◌, min, List, [], ◌∷◌, ◌++◌, length, take, drop, get_or, refl, ap, sym, ◌∙◌, arith, subst}
use Rattle.std.proofs.Math.Seq.{take-add}
use Rattle.std.proofs.lemmas.List.{length-take, length-drop, drop-drop}
use Rattle.par_vector.specs.Runs.{IsRun}

heads : {T : Type 0} (d : List T) (x : T) (rest : List T) → x ∷ rest ≡ take (suc (length rest)) d → (rest ≡ take (length rest) (drop 1 d)) × (d ≡ x ∷ drop 1 d)
heads [] x rest e = absurd (omega (arith, ap length e))
heads (y ∷ d) x rest e = (ap (drop 1) e, ap (λ v. v ∷ d) (sym (ap (λ v. get_or v 0 x) e)))

-- after the first item of a run comes the rest of it, one place on
pub run_next : {T : Type 0} (xs : List T) (i : ℕ) (x : T) (rest run : List T) → run ≡ x ∷ rest → IsRun xs i run → (rest ≡ take (length rest) (drop (i + 1) xs)) × (drop i xs ≡ x ∷ drop (i + 1) xs)
run_next xs i x rest run is u =
    let e : x ∷ rest ≡ take (suc (length rest)) (drop i xs) = sym is ∙ (u.same ∙ ap (λ v. take (length v) (drop i xs)) is) in
    let on : drop 1 (drop i xs) ≡ drop (i + 1) xs = drop-drop 1 i xs in
    let h = heads (drop i xs) x rest e in
    (h.0 ∙ ap (take (length rest)) on, h.1 ∙ ap (λ v. x ∷ v) on)

pub took : {T : Type 0} (xs : List T) (at end : ℕ) (x : T) (rest run : List T) → run ≡ x ∷ rest → IsRun xs at run → at < end → take (end - at) (drop at xs) ≡ x ∷ take (end - (at + 1)) (drop (at + 1) xs)
took xs at end x rest run is u lt =
    let more : end - at ≡ suc (end - (at + 1)) = omega (arith, lt) in
    ap (take (end - at)) (run_next xs at x rest run is u).1 ∙ ap (λ n. take n (x ∷ drop (at + 1) xs)) more

module _ {T : Type 0} (xs : List T) (at end n k : ℕ) (ordered : at ≤ end) (within : end ≤ length xs) (is : n ≡ min k (length (take (end - at) (drop at xs)))) where
  all_length : length (take (end - at) (drop at xs)) ≡ end - at
  all_length = omega (arith, length-take (end - at) (drop at xs), length-drop at xs, ordered, within)

  few : n ≤ end - at
  few = omega (arith, is, all_length)

  pub cut_count : length (take (at + n - at) (drop at xs)) ≡ n
  cut_count = omega (arith, length-take (at + n - at) (drop at xs), length-drop at xs, ordered, within, few)

  pub cut_joined : take (end - at) (drop at xs) ≡ take (at + n - at) (drop at xs) ++ take (end - (at + n)) (drop (at + n) xs)
  cut_joined =
      let a : end - at ≡ n + (end - (at + n)) = omega (arith, few, ordered) in
      let b : at + n - at ≡ n = omega arith in
      ap (λ v. take v (drop at xs)) a
      ∙ (take-add n (end - (at + n)) (drop at xs)
      ∙ (ap (λ v. take n (drop at xs) ++ take (end - (at + n)) v) (drop-drop n at xs)
      ∙ ap (λ v. take v (drop at xs) ++ take (end - (at + n)) (drop (at + n) xs)) (sym b)))
