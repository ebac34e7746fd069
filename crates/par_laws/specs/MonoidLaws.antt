-- The laws of the stock monoids.
use Rattle.std.proofs.Common.{◌≡◌, ℕ, zero, suc, ◌^◌, ◌<◌, Option, Some, None, List, ℤ, pos, negsuc, neg_ℤ, ◌+ℤ◌, ◌*ℤ◌, FitsSigned, refl, ap, sym, ◌∙◌, arith, append_assoc}
use Rattle.std.proofs.Math.IntN.{+ℤ_assoc, +ℤ_idl, +ℤ_idr, *ℤ_comm, *ℤ-zero, *ℤ-one, *ℤ-negsuc, neg_ℤ-neg_ℤ}
use Rattle.std.proofs.Math.Nat.{mul_assoc}
use Rattle.std.specs.Int.{int_max, int_min, int_wrap, w64}
use Rattle.std.proofs.lemmas.Int.{clamps, int_wrap-add_left, int_wrap-add_right, int_wrap-mul_left, int_wrap-mul_right, int_wrap_fits, ints}
use Rattle.par_laws.specs.Optional.{joined_options, separated}
use Rattle.par_laws.specs.Wrapping.{wrapped_count, wrapped_product, wrapped_sum}

-- sums

pub wrapped_sum-associative : (a b c : ℤ) → wrapped_sum (wrapped_sum a b) c ≡ wrapped_sum a (wrapped_sum b c)
wrapped_sum-associative a b c =
    int_wrap-add_left w64 (a +ℤ b) c ∙ ap (int_wrap w64) (+ℤ_assoc a b c) ∙ sym (int_wrap-add_right w64 a (b +ℤ c))

pub wrapped_sum-zero_first : (a : ℤ) → FitsSigned w64 a → wrapped_sum (pos 0) a ≡ a
wrapped_sum-zero_first a fits = ap (int_wrap w64) (+ℤ_idl a) ∙ int_wrap_fits w64 a fits

pub wrapped_sum-zero_second : (a : ℤ) → FitsSigned w64 a → wrapped_sum a (pos 0) ≡ a
wrapped_sum-zero_second a fits = ap (int_wrap w64) (+ℤ_idr a) ∙ int_wrap_fits w64 a fits

-- products: the product of integers is associative, sign by sign

neg-second : (a b : ℤ) → a *ℤ neg_ℤ b ≡ neg_ℤ (a *ℤ b)
neg-second a (pos zero) = *ℤ-zero a ∙ ap neg_ℤ (sym (*ℤ-zero a))
neg-second a (pos (suc n)) = *ℤ-negsuc a n
neg-second a (negsuc n) = sym (neg_ℤ-neg_ℤ (a *ℤ pos (suc n))) ∙ ap neg_ℤ (sym (*ℤ-negsuc a n))

neg-first : (a b : ℤ) → neg_ℤ a *ℤ b ≡ neg_ℤ (a *ℤ b)
neg-first a b = *ℤ_comm (neg_ℤ a) b ∙ neg-second b a ∙ ap neg_ℤ (*ℤ_comm b a)

module _ (a b c : ℤ) (same : (a *ℤ b) *ℤ c ≡ a *ℤ (b *ℤ c)) where
  third_negated : (a *ℤ b) *ℤ neg_ℤ c ≡ a *ℤ (b *ℤ neg_ℤ c)
  third_negated = neg-second (a *ℤ b) c ∙ ap neg_ℤ same ∙ sym (neg-second a (b *ℤ c)) ∙ ap (λ x. a *ℤ x) (sym (neg-second b c))

  second_negated : (a *ℤ neg_ℤ b) *ℤ c ≡ a *ℤ (neg_ℤ b *ℤ c)
  second_negated =
      ap (λ x. x *ℤ c) (neg-second a b) ∙ neg-first (a *ℤ b) c ∙ ap neg_ℤ same ∙ sym (neg-second a (b *ℤ c))
      ∙ ap (λ x. a *ℤ x) (sym (neg-first b c))

  first_negated : (neg_ℤ a *ℤ b) *ℤ c ≡ neg_ℤ a *ℤ (b *ℤ c)
  first_negated = ap (λ x. x *ℤ c) (neg-first a b) ∙ neg-first (a *ℤ b) c ∙ ap neg_ℤ same ∙ sym (neg-first a (b *ℤ c))

naturals : (l m n : ℕ) → (pos l *ℤ pos m) *ℤ pos n ≡ pos l *ℤ (pos m *ℤ pos n)
naturals l m n = ap pos (mul_assoc l m n)

two_naturals : (l m : ℕ) (c : ℤ) → (pos l *ℤ pos m) *ℤ c ≡ pos l *ℤ (pos m *ℤ c)
two_naturals l m (pos n) = naturals l m n
two_naturals l m (negsuc n) = third_negated (pos l) (pos m) (pos (suc n)) (naturals l m (suc n))

one_natural : (l : ℕ) (b c : ℤ) → (pos l *ℤ b) *ℤ c ≡ pos l *ℤ (b *ℤ c)
one_natural l (pos m) c = two_naturals l m c
one_natural l (negsuc m) c = second_negated (pos l) (pos (suc m)) c (two_naturals l (suc m) c)

product-associative : (a b c : ℤ) → (a *ℤ b) *ℤ c ≡ a *ℤ (b *ℤ c)
product-associative (pos l) b c = one_natural l b c
product-associative (negsuc l) b c = first_negated (pos (suc l)) b c (one_natural (suc l) b c)

pub wrapped_product-associative : (a b c : ℤ) → wrapped_product (wrapped_product a b) c ≡ wrapped_product a (wrapped_product b c)
wrapped_product-associative a b c =
    int_wrap-mul_left w64 (a *ℤ b) c ∙ ap (int_wrap w64) (product-associative a b c)
    ∙ sym (int_wrap-mul_right w64 a (b *ℤ c))

pub wrapped_product-one_first : (a : ℤ) → FitsSigned w64 a → wrapped_product (pos 1) a ≡ a
unfolding lib.IntN.one
wrapped_product-one_first a fits = ap (int_wrap w64) (*ℤ_comm (pos 1) a ∙ *ℤ-one a) ∙ int_wrap_fits w64 a fits

pub wrapped_product-one_second : (a : ℤ) → FitsSigned w64 a → wrapped_product a (pos 1) ≡ a
unfolding lib.IntN.one
wrapped_product-one_second a fits = ap (int_wrap w64) (*ℤ-one a) ∙ int_wrap_fits w64 a fits

-- counts

pub wrapped_count-associative : (a b c : ℕ) → wrapped_count (wrapped_count a b) c ≡ wrapped_count a (wrapped_count b c)
wrapped_count-associative a b c = omega arith

pub wrapped_count-zero_first : (a : ℕ) → a < 2 ^ 64 → wrapped_count 0 a ≡ a
wrapped_count-zero_first a fits = omega arith

pub wrapped_count-zero_second : (a : ℕ) → a < 2 ^ 64 → wrapped_count a 0 ≡ a
wrapped_count-zero_second a fits = omega arith

-- the least and the greatest

pub int_min-associative : (a b c : ℤ) → int_min (int_min a b) c ≡ int_min a (int_min b c)
int_min-associative a b c = omega (arith, ints, clamps)

pub int_max-associative : (a b c : ℤ) → int_max (int_max a b) c ≡ int_max a (int_max b c)
int_max-associative a b c = omega (arith, ints, clamps)

-- options

module _ {X : Type 0} (join : X → X → X) (associative : (a b c : X) → join (join a b) c ≡ join a (join b c)) where
  pub joined_options-associative : (a b c : Option X) → joined_options join (joined_options join a b) c ≡ joined_options join a (joined_options join b c)
  joined_options-associative None b c = refl
  joined_options-associative (Some a) None c = refl
  joined_options-associative (Some a) (Some b) None = refl
  joined_options-associative (Some a) (Some b) (Some c) = ap Some (associative a b c)

pub joined_options-none_second : {X : Type 0} (join : X → X → X) (a : Option X) → joined_options join a None ≡ a
joined_options-none_second join None = refl
joined_options-none_second join (Some a) = refl

-- texts

pub separated-associative : {X : Type 0} (sep a b c : List X) → separated sep (separated sep a b) c ≡ separated sep a (separated sep b c)
separated-associative sep a b c = simp append_assoc refl
