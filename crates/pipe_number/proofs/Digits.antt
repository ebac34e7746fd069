-- Reading a text a byte at a time is reading it whole.
use Rattle.std.proofs.Common.{◌≡◌, ◌&&◌, ◌==◌, ◌+◌, ◌*◌, ◌-◌, ◌^◌, ◌<◌, ◌≤◌, ◌∙◌, sym, refl, ap, inl, inr, min, ℕ, Bool, true, false, List, [], ◌∷◌, if◌then◌else◌, length, arith, nat_lt, nat_le}
use Rattle.std.proofs.lemmas.Bool.{cases_Bool}
use Rattle.std.proofs.lemmas.Bool.Decides.{nat_tests}
use Rattle.std.specs.List.{fold, list_all}
use Rattle.std.specs.Char.{digit_value, is_ascii_digit}
use Rattle.std.specs.Str.Parse.{digits_value, digits_value_after, starts_with_minus}
use Rattle.pipe_expr.specs.Grammar.{int_of}
use Rattle.pipe_number.specs.declared.spelling.Spelling.{Spelling}
use Rattle.pipe_number.specs.declared.spelling.Spelling.TheVariants as s
use Rattle.pipe_number.specs.Spelled.{are_digits, more_digits, next, number, signed, spelled}

abbrev capped : ℕ → ℕ
capped n = min n 18446744073709551615

wrong : (bs : List ℕ) → fold next s.Wrong bs ≡ s.Wrong
wrong [] = refl
wrong (b ∷ bs) = wrong bs

digit : (d : ℕ) → is_ascii_digit d ≡ true → digit_value d ≡ d - 48
digit d e = grind (arith, nat_tests)

one_more : (n d : ℕ) → min (min (capped n * 10) 18446744073709551615 + d) 18446744073709551615 ≡ capped (n * 10 + d)
one_more n d = omega arith

-- digits after those of n
more : (negative : Bool) (n : ℕ) (ds : List ℕ) → fold next (s.Digits negative (capped n)) ds ≡ (if list_all is_ascii_digit ds then s.Digits negative (capped (digits_value_after 10 n ds)) else s.Wrong)
more negative n [] = refl
more negative n (d ∷ ds) = elim (cases_Bool (is_ascii_digit d)) [
  | inl e ↦
      let step : min (min (capped n * 10) 18446744073709551615 + (d - 48)) 18446744073709551615 ≡ capped (n * 10 + digit_value d) = one_more n (d - 48) ∙ ap (λ k. capped (n * 10 + k)) (sym (digit d e)) in
      rw e (ap (λ k. fold next (s.Digits negative k) ds) step ∙ more negative (n * 10 + digit_value d) ds)
  | inr e ↦ rw e (wrong ds)
]

within-capped : (negative : Bool) (n : ℕ) → int_of negative (capped n) ≡ int_of negative n
unfolding int_of
within-capped false n = elim (cases_Bool (nat_le n 18446744073709551615)) [
  | inl e ↦ let few : capped n ≡ n = grind (arith, nat_tests) in rw few refl
  | inr e ↦
      let a : nat_lt (capped n) (2 ^ 63) ≡ false = grind (arith, nat_tests) in
      let b : nat_lt n (2 ^ 63) ≡ false = grind (arith, nat_tests) in
      rw (a, b) refl
]
within-capped true n = elim (cases_Bool (nat_le n 18446744073709551615)) [
  | inl e ↦ let few : capped n ≡ n = grind (arith, nat_tests) in rw few refl
  | inr e ↦
      let a : nat_le (capped n) (2 ^ 63) ≡ false = grind (arith, nat_tests) in
      let b : nat_le n (2 ^ 63) ≡ false = grind (arith, nat_tests) in
      rw (a, b) refl
]

chosen : (negative b : Bool) (n : ℕ) → number (if b then s.Digits negative (capped n) else s.Wrong) ≡ (if b then int_of negative n else number s.Wrong)
chosen negative true n = within-capped negative n
chosen negative false n = refl

-- digits from the first one on
begun : (negative : Bool) (d : ℕ) (ds : List ℕ) → number (fold next (s.Digits negative 0) (d ∷ ds)) ≡ signed negative (d ∷ ds)
begun negative d ds =
    let e = more negative 0 (d ∷ ds) in
    let some : nat_lt 0 (length (d ∷ ds)) ≡ true = grind (arith, nat_tests) in
    rw (e, some) (chosen negative (list_all is_ascii_digit (d ∷ ds)) (digits_value 10 (d ∷ ds)))

behind_minus : (bs : List ℕ) → number (fold next s.Signed bs) ≡ signed true bs
behind_minus [] = refl
behind_minus (d ∷ ds) = begun true d ds

-- the whole text
pub whole : (bs : List ℕ) → number (fold next s.Empty bs) ≡ spelled bs
whole [] = refl
whole (b ∷ bs) = elim (cases_Bool (b == 45)) [
  | inl e ↦ rw e (behind_minus bs)
  | inr e ↦ rw e (begun false b bs)
]
