-- What holds of each view in a list, or of some view, when one is replaced or added.
use Rattle.std.proofs.Common.{◌≡◌, ◌≢◌, ℕ, zero, suc, ◌<◌, ◌⊎◌, inl, inr, ⊎_elim, List, [], ◌∷◌, ◌++◌, length, set, refl, sym, ◌∙◌, subst, arith}
use mathlib.Core.Logic.{dite}
use mathlib.Core.Option.{some, some-injective, some-ne-none}
use native.Mathlib.Decide.{ℕ_discrete}
use lib.ListN.{get_elem?}
use Rattle.atomic_table.proofs.Lists.{at_set, at_snoc, at_longer, set_else}

module _ {V : Type 0} where
  -- what stands at i is in the list
  pub in_range : (l : List V) (i : ℕ) (v : V) → get_elem? l i ≡ some v → i < length l
  in_range [] i v e = absurd (some-ne-none v (sym e))
  in_range (x ∷ xs) zero v e = omega arith
  in_range (x ∷ xs) (suc i) v e = let h = in_range xs i v e in omega arith

  -- a list that has v at i has w there once w replaces it
  pub here : (l : List V) (i : ℕ) (v w : V) → get_elem? l i ≡ some v → get_elem? (set l i w) i ≡ some w
  here [] i v w e = absurd (some-ne-none v (sym e))
  here (x ∷ xs) zero v w e = refl
  here (x ∷ xs) (suc i) v w e = here xs i v w e

  -- at one place stands one view
  pub same_view : (l : List V) (i j : ℕ) (v u : V) → get_elem? l i ≡ some v → get_elem? l j ≡ some u → j ≡ i → v ≡ u
  same_view l i j v u at there same = some-injective v u (sym at ∙ subst (λ (k : ℕ). get_elem? l k ≡ some u) same there)

  -- what holds of the new view at i, and of each view elsewhere, holds of each view after
  pub each_set : (P : ℕ → V → Type 0) (l : List V) (i : ℕ) (w : V) → P i w → ((j : ℕ) (u : V) → j ≢ i → get_elem? l j ≡ some u → P j u) → (j : ℕ) (u : V) → get_elem? (set l i w) j ≡ some u → P j u
  each_set P l i w mine others j u e = ⊎_elim
      (λ (t : (j ≡ i) × (w ≡ u)). subst (λ (x : ℕ × V). P x.0 x.1) (λ k. (sym t.0 k, t.1 k)) mine)
      (λ (t : (j ≢ i) × (get_elem? l j ≡ some u)). others j u t.0 t.1)
      (at_set l i j w u e)

  -- what holds of the added view, and of each view before, holds of each view after
  pub each_snoc : (P : V → Type 0) (l : List V) (w : V) → P w → ((j : ℕ) (u : V) → get_elem? l j ≡ some u → P u) → (j : ℕ) (u : V) → get_elem? (l ++ w ∷ []) j ≡ some u → P u
  each_snoc P l w mine others j u e = ⊎_elim (λ (t : get_elem? l j ≡ some u). others j u t) (λ (t : w ≡ u). subst P t mine) (at_snoc l w u j e)

  -- in a list with one more, a view stands before the end or at it
  pub at_end : (l : List V) (w u : V) (j : ℕ) → get_elem? (l ++ w ∷ []) j ≡ some u → (get_elem? l j ≡ some u) ⊎ ((j ≡ length l) × (w ≡ u))
  at_end [] w u zero e = inr (refl, some-injective w u e)
  at_end [] w u (suc j) e = absurd (some-ne-none u (sym e))
  at_end (x ∷ xs) w u zero e = inl e
  at_end (x ∷ xs) w u (suc j) e = ⊎_elim (λ h. inl h) (λ t. let h = t.0 in inr (omega arith, t.1)) (at_end xs w u j e)

  -- some view has this
  abbrev pub Has : (V → Type 0) → List V → Type 0
  Has P l = (j : ℕ) × (u : V) × (get_elem? l j ≡ some u) × P u

  -- where some view has it, some view has it after, if the new one has it where the old one had
  pub some_set : (P : V → Type 0) (l : List V) (i : ℕ) (v w : V) → get_elem? l i ≡ some v → (P v → P w) → Has P l → Has P (set l i w)
  some_set P l i v w at on (j, u, there, has) = dite (ℕ_discrete j i)
      (λ (same : j ≡ i). (i, w, here l i v w at, on (subst P (sym (same_view l i j v u at there same)) has)))
      (λ (other : j ≢ i). (j, u, set_else l i j w other ∙ there, has))

  pub some_snoc : (P : V → Type 0) (l : List V) (w : V) → Has P l → Has P (l ++ w ∷ [])
  some_snoc P l w (j, u, there, has) = (j, u, at_longer l (w ∷ []) j u there, has)
