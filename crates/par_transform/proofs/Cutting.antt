-- What a cut by a number of items leaves on each side.
use Rattle.std.proofs.Common.{◌≡◌, ℕ, ◌≤◌, ◌<◌, inl, inr, min, List, [], ◌∷◌, ◌++◌, length, take, drop, length-append, append-nil, refl, ap, sym, ◌∙◌, arith}
use Rattle.std.proofs.lemmas.Bool.{cases_lt}
use Rattle.std.proofs.lemmas.List.{take_all, drop_all}
use Rattle.std.proofs.Math.Seq.{take-append_seam, drop-append_seam}

none_of : {X : Type 0} (xs : List X) → length xs ≡ 0 → xs ≡ []
none_of [] e = refl
none_of (x ∷ xs) e = absurd (omega (arith, e))

module _ {X : Type 0} (xs a b : List X) (n : ℕ) (parts : xs ≡ a ++ b) (count : length a ≡ min (min n 4294967295) (length xs)) (small : length xs ≤ 4194304) where
  no_rest : length xs < n → b ≡ []
  no_rest more = none_of b (omega (arith, count, small, more, ap length parts, length-append a b))

  -- the first part is the first n
  pub cut_front : a ≡ take n xs
  cut_front =
      elim (cases_lt (length xs) n) [
        | inl more ↦ sym (append-nil a) ∙ (ap (λ v. a ++ v) (sym (no_rest more)) ∙ (sym parts ∙ sym (take_all n xs (omega (arith, more)))))
        | inr few ↦
            let e : length a ≡ n = omega (arith, count, small, few) in
            sym (take-append_seam a b) ∙ (ap (λ k. take k (a ++ b)) e ∙ ap (take n) (sym parts))
      ]

  -- the second part is the others
  pub cut_rest : b ≡ drop n xs
  cut_rest =
      elim (cases_lt (length xs) n) [
        | inl more ↦ no_rest more ∙ sym (drop_all n xs (omega (arith, more)))
        | inr few ↦
            let e : length a ≡ n = omega (arith, count, small, few) in
            sym (drop-append_seam a b) ∙ (ap (λ k. drop k (a ++ b)) e ∙ ap (drop n) (sym parts))
      ]
