-- Ints: those of a line's tokens can be written, and what is written means the same.
use Rattle.std.proofs.Common.{◌≡◌, ◌≤◌, ◌<◌, ◌⊎◌, ◌+◌, ◌-◌, ◌*◌, ◌/◌, ◌%◌, ◌^◌, ◌∷◌, ◌++◌, ◌∙◌, sym, refl, ap, inl, inr, ℕ, zero, suc, ℤ, pos, negsuc, neg_ℤ, List, [], length, min, Bool, true, false, arith, Option, Some, None}
use Rattle.std.specs.Prelude.{◌&&◌, nat_le, nat_lt, if◌then◌else◌}
use Rattle.std.specs.List.{list_all}
use Rattle.std.specs.Fmt.{decimal}
use Rattle.std.proofs.Math.Nat.{min-eq_left}
use Rattle.std.proofs.lemmas.Bool.{cases_Bool}
use Rattle.std.proofs.lemmas.Fmt.{decimal_by_steps}
use Rattle.pipe_text.specs.declared.lexeme.Symbol.TheVariants as m
use Rattle.pipe_text.specs.Token.{Digits, IsLex, is_digit}
use Rattle.pipe_tokens.specs.Meaning.{capped, meant, value_after}
use Rattle.pipe_expr.specs.declared.token.Token.{Token}
use Rattle.pipe_expr.specs.declared.token.Token.TheVariants as t
use Rattle.pipe_expr.specs.Grammar.{IsInt, int_of}
use Rattle.pipe_print.specs.Items.{Item, Int}
use Rattle.pipe_print.proofs.Tokens.{CanInt, lexes, toks}

-- ---- digits

value_last : (n d : ℕ) (ds : List ℕ) → value_after n (ds ++ d ∷ []) ≡ value_after n ds * 10 + (d - 48)
value_last n d [] = refl
value_last n d (c ∷ ds) = value_last (n * 10 + (c - 48)) d ds

pub decimal_value : (n : ℕ) → n < 2 ^ 64 → value_after 0 (decimal n) ≡ n
decimal_value n lt = decimal_by_steps (λ k ds. value_after 0 ds ≡ k) (λ k low. omega arith) (λ k ds le ih. value_last 0 (48 + k % 10) ds ∙ omega (arith, ih)) n lt

digit_of : (d : ℕ) → d < 10 → is_digit (48 + d) ≡ true
digit_of d lt = grind (arith, lt)

all_push : (p : ℕ → Bool) (ds : List ℕ) (d : ℕ) → list_all p ds ≡ true → p d ≡ true → list_all p (ds ++ d ∷ []) ≡ true
all_push p [] d a e = rw e refl
all_push p (c ∷ ds) d a e = elim (cases_Bool (p c)) [
  | inl q ↦ rw q (all_push p ds d (rw q at a) e)
  | inr q ↦ let bad = rw q at a in cc bad
]

lex_push : (ds : List ℕ) (d : ℕ) → IsLex (Digits ds) → is_digit d ≡ true → IsLex (Digits (ds ++ d ∷ []))
lex_push [] d l e = absurd l
lex_push (c ∷ ds) d l e = (l.0, all_push is_digit ds d l.1 e)

pub decimal_lex : (n : ℕ) → n < 2 ^ 64 → IsLex (Digits (decimal n))
decimal_lex n lt = decimal_by_steps (λ k ds. IsLex (Digits ds)) (λ k low. (digit_of k low, refl)) (λ k ds le ih. lex_push ds (48 + k % 10) ih (digit_of (k % 10) (omega arith))) n lt

pub digits_mean : (v n : ℕ) → n < 2 ^ 64 → meant v (Digits (decimal n)) ≡ t.Digits n
digits_mean v n lt = ap (λ (x : ℕ). t.Digits (capped x)) (decimal_value n lt) ∙ ap t.Digits (min-eq_left (omega (arith, lt)))

-- ---- ints

minus_of : (n : ℕ) (z : ℤ) (v : ℕ) → n ≤ 2 ^ 63 → neg_ℤ (pos n) ≡ z → CanInt z × (length (lexes v (Int z ∷ [])) ≤ 2)
minus_of zero z v le e = rw (← e) (omega arith, omega arith)
minus_of (suc n) z v le e = rw (← e) (omega (arith, le), omega arith)

some_when : (b : Bool) (y z : ℤ) → (if b then Some y else None) ≡ Some z → (b ≡ true) × (y ≡ z)
some_when true y z h = (refl, cc h)
some_when false y z h = cc h

plain_can : (n v : ℕ) (z : ℤ) → int_of false n ≡ Some z → CanInt z × (length (lexes v (Int z ∷ [])) ≤ 1)
unfolding int_of
plain_can n v z h = let s = some_when (nat_lt n (2 ^ 63)) (pos n) z h in rw (← s.1) (grind (arith, s.0), omega arith)

minus_can : (n v : ℕ) (z : ℤ) → int_of true n ≡ Some z → CanInt z × (length (lexes v (Int z ∷ [])) ≤ 2)
unfolding int_of
minus_can n v z h = let s = some_when (nat_le n (2 ^ 63)) (neg_ℤ (pos n)) z h in minus_of n z v (grind (arith, s.0)) s.1

pub int_can : (v : ℕ) (z : ℤ) (ts : List Token) → IsInt z ts → CanInt z × (length (lexes v (Int z ∷ [])) ≤ length ts)
int_can v z ts (n, which) = elim which [
  | inl h ↦ let c = plain_can n v z h.0 in (c.0, omega (arith, c.1, ap length h.1))
  | inr h ↦ let c = minus_can n v z h.0 in (c.0, omega (arith, c.1, ap length h.1))
]

pub int_short : (v : ℕ) (z : ℤ) → length (lexes v (Int z ∷ [])) ≤ 2
int_short v (pos n) = omega arith
int_short v (negsuc n) = omega arith

plain_int : (n : ℕ) → n < 2 ^ 63 → int_of false n ≡ Some (pos n)
unfolding int_of
plain_int n lt = let b : nat_lt n (2 ^ 63) ≡ true = grind (arith, lt) in rw b refl

minus_int : (n : ℕ) → n < 2 ^ 63 → int_of true (suc n) ≡ Some (negsuc n)
unfolding int_of
minus_int n lt = let b : nat_le (suc n) (2 ^ 63) ≡ true = grind (arith, lt) in rw b refl

pub int_means : (v : ℕ) (z : ℤ) → CanInt z → IsInt z (toks v (Int z ∷ []))
int_means v (pos n) c = (n, inl (plain_int n c, ap (λ (x : Token). x ∷ []) (digits_mean v n (omega (arith, c)))))
int_means v (negsuc n) c = (suc n, inr (minus_int n c, ap (λ (x : Token). t.Sign m.Minus ∷ x ∷ []) (digits_mean v (suc n) (omega (arith, c)))))
