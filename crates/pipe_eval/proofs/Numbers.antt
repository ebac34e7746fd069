-- Numbers in 64 bits.
use Rattle.std.proofs.Common.{◌≡◌, ◌/◌, ◌^◌, ◌<◌, ◌≤◌, ◌++◌, ◌∙◌, sym, refl, ap, ℕ, zero, suc, ℤ, pos, negsuc, neg_ℤ, false, List, length, arith, int_div, unsigned_abs, FitsSigned, Ok}
use Rattle.std.specs.Int.{cast_signed, cast_unsigned, int_wrap, int_wrapping_add, int_wrapping_div, w64}
use Rattle.std.specs.Ordering.{int_eq}
use Rattle.std.proofs.lemmas.Int.{SFits-int_wrap, int_wrap-add_left, int_wrap-add_right, wrapping_add_is}
use Rattle.std.proofs.lemmas.List.{length-append}
use Rattle.pipe_eval.specs.Answers.{quotient, size}

-- what is left of a number's bits
back : (z : ℤ) → unsigned_abs z < 2 ^ 64 → cast_signed w64 (cast_unsigned w64 z) ≡ int_wrap w64 z
unfolding int_wrap
back (pos n) h = ap (cast_signed w64) (omega arith)
back (negsuc n) h = ap (cast_signed w64) (omega arith)

abs_neg : (n : ℕ) → unsigned_abs (neg_ℤ (pos n)) ≡ n
abs_neg zero = refl
abs_neg (suc n) = refl

quotient-le : (a b : ℤ) → unsigned_abs (int_div a b) ≤ unsigned_abs a
quotient-le (pos a) (pos b) = omega arith
quotient-le (pos a) (negsuc b) = rw (abs_neg (a / suc b)) (omega arith)
quotient-le (negsuc a) (pos b) = rw (abs_neg (suc a / b)) (omega arith)
quotient-le (negsuc a) (negsuc b) = omega arith

abs-le : (a : ℤ) → FitsSigned w64 a → unsigned_abs a ≤ 2 ^ 63
abs-le (pos n) f = omega (arith, f.sfits)
abs-le (negsuc n) f = omega (arith, f.sfits)

-- the quotient by a number that isn't 0
pub quotient-fine : (a b : ℤ) → FitsSigned w64 a → int_eq b (pos 0) ≡ false → Ok (int_wrapping_div w64 a b) ≡ quotient a b
quotient-fine a b f e =
    let small : unsigned_abs (int_div a b) < 2 ^ 64 = omega (arith, quotient-le a b, abs-le a f) in
    rw e (ap Ok (back (int_div a b) small))

-- how many characters two texts have
pub sizes : (a b : List ℕ) → int_wrapping_add w64 (size a) (size b) ≡ size (a ++ b)
sizes a b =
    wrapping_add_is w64 (size a) (size b) (SFits-int_wrap w64 (pos (length a))) (SFits-int_wrap w64 (pos (length b)))
    ∙ int_wrap-add_left w64 (pos (length a)) (size b) ∙ int_wrap-add_right w64 (pos (length a)) (pos (length b))
    ∙ ap (λ n. int_wrap w64 (pos n)) (sym (length-append a b))

-- a count of characters in 64 bits
pub size_is : (n : ℕ) (s : List ℕ) → n < 2 ^ 64 → n ≡ length s → cast_signed w64 n ≡ size s
size_is n s h e = back (pos n) h ∙ ap (λ k. int_wrap w64 (pos k)) e
