-- A number that stops growing at its cap.
use Rattle.std.proofs.Common.{◌≡◌, ◌≤◌, ◌<◌, ◌+◌, ◌-◌, ◌*◌, ◌∷◌, ◌∙◌, sym, refl, ap, inl, inr, ℕ, suc, List, [], length, drop, min, slice_index_or, drop-cons, arith, drop_of_length-le}
use Rattle.std.proofs.lemmas.Bool.{cases_Bool}
use Rattle.std.specs.Prelude.{nat_le}
use Rattle.std.proofs.Math.Nat.{min-eq_left, min-le_left, min-le_right, le-min}
use Rattle.pipe_tokens.specs.Meaning.{capped, value_after}

grows : (n : ℕ) (ds : List ℕ) → n ≤ value_after n ds
grows n [] = omega arith
grows n (c ∷ ds) = let g = grows (n * 10 + (c - 48)) ds in omega (arith, g)

full : (n : ℕ) → 18446744073709551615 ≤ n → capped n ≡ 18446744073709551615
full n le =
    let a : 18446744073709551615 ≤ min n 18446744073709551615 = le-min le (omega arith) in
    omega (arith, a, min-le_right n 18446744073709551615)

pub small : (n : ℕ) → n ≤ 18446744073709551615 → capped n ≡ n
small n le = min-eq_left le

-- a digit more, capped twice
cap_step : (n d : ℕ) → min (min (n * 10) 18446744073709551615 + d) 18446744073709551615 ≡ capped (n * 10 + d)
cap_step n d = elim (cases_Bool (nat_le (n * 10) 18446744073709551615)) [
  | inl e ↦ let le : n * 10 ≤ 18446744073709551615 = grind (arith, e) in rw (small (n * 10) le) refl
  | inr e ↦
      let le : 18446744073709551615 ≤ n * 10 = grind (arith, e) in
      let f = full (n * 10) le in
      rw f (full (18446744073709551615 + d) (omega arith) ∙ sym (full (n * 10 + d) (omega (arith, le))))
]

cap_after : (n : ℕ) (ds : List ℕ) → capped (value_after (capped n) ds) ≡ capped (value_after n ds)
cap_after n ds = elim (cases_Bool (nat_le n 18446744073709551615)) [
  | inl e ↦ let le : n ≤ 18446744073709551615 = grind (arith, e) in rw (small n le) refl
  | inr e ↦
      let le : 18446744073709551615 ≤ n = grind (arith, e) in
      let a = grows (capped n) ds in
      let b = grows n ds in
      let f = full n le in
      full (value_after (capped n) ds) (omega (arith, a, f)) ∙ sym (full (value_after n ds) (omega (arith, b, le)))
]

pub number_more : (n i : ℕ) (ds : List ℕ) (all : ℕ) → i < length ds → capped (value_after n (drop i ds)) ≡ all
    → capped (value_after (min (min (n * 10) 18446744073709551615 + (slice_index_or ds i 0 - 48)) 18446744073709551615) (drop (suc i) ds)) ≡ all
number_more n i ds all lt h =
    let d = slice_index_or ds i 0 - 48 in
    rw (cap_step n d) (cap_after (n * 10 + d) (drop (suc i) ds) ∙ (rw (drop-cons ds i 0 lt) at h))

pub number_done : (n i : ℕ) (ds : List ℕ) (all : ℕ) → length ds ≤ i → n ≤ 18446744073709551615 → capped (value_after n (drop i ds)) ≡ all → n ≡ all
number_done n i ds all le fits h = let none : drop i ds ≡ [] = drop_of_length-le ds le in sym (small n fits) ∙ (rw none at h)
