-- A function of numbers that changes at one place, and in an area round it.
use Rattle.std.proofs.Common.{◌≡◌, ◌≢◌, ℕ, Bool, true, false, cond, eqb, eq-eqb, ne_eqb, sym, refl, subst}
use mathlib.Core.Logic.{dite}
use native.Mathlib.Decide.{ℕ_discrete}

-- f, with x at k and y elsewhere in the area
pub put : {A : Type 0} → ℕ → A → (ℕ → Bool) → A → (ℕ → A) → ℕ → A
put k x area y f m = cond (eqb m k) x (cond (area m) y (f m))

module _ {A : Type 0} (k : ℕ) (x : A) (area : ℕ → Bool) (y : A) (f : ℕ → A) where
  -- what holds of x at k, of y in the area and of f elsewhere holds after
  pub at_put : (P : ℕ → A → Type 0) (m : ℕ) → P k x → (m ≢ k → area m ≡ true → P m y) → (m ≢ k → area m ≡ false → P m (f m)) → P m (put k x area y f m)
  unfolding put
  at_put P m at_k inside outside = dite (ℕ_discrete m k)
      (λ e. subst (λ (b : Bool). P m (cond b x (cond (area m) y (f m)))) (sym (eq-eqb m k e)) (subst (λ (n : ℕ). P n x) (sym e) at_k))
      (λ ne. subst (λ (b : Bool). P m (cond b x (cond (area m) y (f m)))) (sym (ne_eqb m k ne)) (elsewhere ne (area m) refl))
    where
      elsewhere : m ≢ k → (b : Bool) → area m ≡ b → P m (cond b y (f m))
      elsewhere ne true e = inside ne e
      elsewhere ne false e = outside ne e

  pub put_here : put k x area y f k ≡ x
  put_here = at_put (λ q z. q ≡ k → z ≡ x) k (λ _. refl) (λ n. absurd (n refl)) (λ n. absurd (n refl)) refl
