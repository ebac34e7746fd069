-- Looking no deeper than a bound tells whether an expression is deeper.
use Rattle.std.proofs.Common.{◌≡◌, ◌<◌, ◌≤◌, ◌+◌, ◌||◌, ◌⊎◌, inl, inr, refl, ℕ, zero, suc, Bool, true, false, arith}
use Rattle.std.specs.Prelude.{max, nat_le}
use Rattle.std.proofs.lemmas.Bool.{cases_Bool}
use Rattle.std.proofs.Math.Nat.{le-max_left, le-max_right, max-eq_left, max-eq_right}
use Rattle.pipe_expr.specs.Grammar.{Tree, Number, Texted, Named, Length, Valued, Inside, Negated, Joined}
use Rattle.pipe_expr.specs.Depth.{depth, over}

or_true : (a b : Bool) → (a || b) ≡ true → (a ≡ true) ⊎ (b ≡ true)
or_true true b h = inl refl
or_true false b h = inr h

or_left : (a b : Bool) → a ≡ true → (a || b) ≡ true
or_left a b h = rw h refl

or_right : (a b : Bool) → b ≡ true → (a || b) ≡ true
or_right true b h = refl
or_right false b h = h

some_depth : (e : Tree) → 0 < depth e
some_depth (Number z) = omega arith
some_depth (Texted s) = omega arith
some_depth (Named w) = omega arith
some_depth (Length e) = omega arith
some_depth (Valued e) = omega arith
some_depth (Inside e) = omega arith
some_depth (Negated e) = omega arith
some_depth (Joined op a b) = omega arith

max_or : (n a b : ℕ) → n < max a b → (n < a) ⊎ (n < b)
max_or n a b h = elim (cases_Bool (nat_le a b)) [
  | inl e ↦ let le : a ≤ b = grind (arith, e) in inr (rw (max-eq_right le) at h)
  | inr e ↦ let le : b ≤ a = grind (arith, e) in inl (rw (max-eq_left le) at h)
]

pub over-deep : (n : ℕ) (e : Tree) → over n e ≡ true → n < depth e
unfolding over
over-deep zero e h = some_depth e
over-deep (suc n) (Number z) h = cc h
over-deep (suc n) (Texted s) h = cc h
over-deep (suc n) (Named w) h = cc h
over-deep (suc n) (Length e) h = let ih = over-deep n e h in omega (arith, ih)
over-deep (suc n) (Valued e) h = let ih = over-deep n e h in omega (arith, ih)
over-deep (suc n) (Inside e) h = let ih = over-deep n e h in omega (arith, ih)
over-deep (suc n) (Negated e) h = let ih = over-deep n e h in omega (arith, ih)
over-deep (suc n) (Joined op a b) h = elim (or_true (over n a) (over n b) h) [
  | inl x ↦ let ih = over-deep n a x in let le = le-max_left (depth a) (depth b) in omega (arith, ih, le)
  | inr x ↦ let ih = over-deep n b x in let le = le-max_right (depth a) (depth b) in omega (arith, ih, le)
]

pub deep-over : (n : ℕ) (e : Tree) → n < depth e → over n e ≡ true
unfolding over
deep-over zero e h = refl
deep-over (suc n) (Number z) h = absurd (omega (arith, h))
deep-over (suc n) (Texted s) h = absurd (omega (arith, h))
deep-over (suc n) (Named w) h = absurd (omega (arith, h))
deep-over (suc n) (Length e) h = deep-over n e (omega (arith, h))
deep-over (suc n) (Valued e) h = deep-over n e (omega (arith, h))
deep-over (suc n) (Inside e) h = deep-over n e (omega (arith, h))
deep-over (suc n) (Negated e) h = deep-over n e (omega (arith, h))
deep-over (suc n) (Joined op a b) h =
    let inner : n < max (depth a) (depth b) = omega (arith, h) in
    elim (max_or n (depth a) (depth b) inner) [
      | inl x ↦ or_left (over n a) (over n b) (deep-over n a x)
      | inr x ↦ or_right (over n a) (over n b) (deep-over n b x)
    ]
