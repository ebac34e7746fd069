-- The parts of the board that seats stand for.
use Rattle.std.proofs.Common.{◌≡◌, ◌≢◌, ℕ, zero, suc, ◌+◌, ◌-◌, ◌<◌, ◌≤◌, min, ⊎_elim, List, [], ◌∷◌, ◌++◌, length, set, refl, sym, ap, ◌∙◌, arith, true}
use mathlib.Core.Logic.{dite}
use mathlib.Core.Option.{some, some-injective, some-ne-none}
use native.Mathlib.Decide.{ℕ_discrete}
use lib.ListN.{get_elem?}
use Rattle.par_views.proofs.Views.{each_set, at_end}
use Rattle.par_board.specs.Seen.{Sight, all_parts}
use Rattle.par_board.specs.Rule.{sum_parts, Parted}

module _ {F : Type 0} where
  -- where w replaces v, the sum changes by their difference
  pub sum_set : (l : List (Sight F)) (i : ℕ) (v w : Sight F) → get_elem? l i ≡ some v → sum_parts (set l i w) + v.parts ≡ sum_parts l + w.parts
  sum_set [] i v w e = absurd (some-ne-none v (sym e))
  sum_set (x ∷ xs) zero v w e = let is : x.parts ≡ v.parts = ap (λ (u : Sight F). u.parts) (some-injective x v e) in let a : ℕ = sum_parts xs in omega arith
  sum_set (x ∷ xs) (suc i) v w e = let h = sum_set xs i v w e in omega arith

  pub sum_snoc : (l : List (Sight F)) (w : Sight F) → sum_parts (l ++ w ∷ []) ≡ sum_parts l + w.parts
  sum_snoc [] w = omega arith
  sum_snoc (x ∷ xs) w = let h = sum_snoc xs w in omega arith

  pub one_of : (l : List (Sight F)) (i : ℕ) (v : Sight F) → get_elem? l i ≡ some v → v.parts ≤ sum_parts l
  one_of [] i v e = absurd (some-ne-none v (sym e))
  one_of (x ∷ xs) zero v e = let is : x.parts ≡ v.parts = ap (λ (u : Sight F). u.parts) (some-injective x v e) in omega arith
  one_of (x ∷ xs) (suc i) v e = let h = one_of xs i v e in omega arith

  -- two seats stand for no more than all do
  pub two_of : (l : List (Sight F)) (i j : ℕ) (v u : Sight F) → i ≢ j → get_elem? l i ≡ some v → get_elem? l j ≡ some u → v.parts + u.parts ≤ sum_parts l
  two_of [] i j v u ne e d = absurd (some-ne-none v (sym e))
  two_of (x ∷ xs) zero zero v u ne e d = absurd (ne refl)
  two_of (x ∷ xs) zero (suc j) v u ne e d = let is : x.parts ≡ v.parts = ap (λ (z : Sight F). z.parts) (some-injective x v e) in let h = one_of xs j u d in omega arith
  two_of (x ∷ xs) (suc i) zero v u ne e d = let is : x.parts ≡ u.parts = ap (λ (z : Sight F). z.parts) (some-injective x u d) in let h = one_of xs i v e in omega arith
  two_of (x ∷ xs) (suc i) (suc j) v u ne e d = let h = two_of xs i j v u (λ z. ne (ap suc z)) e d in omega arith

  -- a step leaves the parts of its seat
  pub parted_step : (l : List (Sight F)) (i : ℕ) (v w : Sight F) → get_elem? l i ≡ some v → v.live ≡ true → w.parts ≡ v.parts → Parted l → Parted (set l i w)
  parted_step l i v w at live same p = (
    p.0,
    (let s = sum_set l i v w at in let t = p.1 in omega arith),
    each_set (λ _ (u : Sight F). u.live ≡ true → u.parts ≡ 0 → 0 < p.0) l i w (λ _ z. p.2 i v at live (sym same ∙ z)) (λ j u _ e. p.2 j u e),
  )

  -- a split gives one part away, or loses the one that is left
  pub parted_split : (l : List (Sight F)) (i : ℕ) (v w u : Sight F) → get_elem? l i ≡ some v → v.live ≡ true → w.parts ≡ v.parts - 1 → u.parts ≡ min 1 (v.parts - 1) → Parted l → Parted (set l i w ++ u ∷ [])
  parted_split l i v w u at live left right p = let gone : ℕ = v.parts - (w.parts + u.parts) in let none_left : v.parts ≡ 0 → 0 < p.0 = p.2 i v at live in let s = sum_set l i v w at in let t = sum_snoc (set l i w) u in let q = p.1 in
      let lost : ℕ = p.0 in let few : w.parts ≡ 0 → 0 < lost + gone = (λ z. dite (ℕ_discrete v.parts 0) (λ e. let h = none_left e in omega arith) (λ ne. omega arith)) in (
        lost + gone,
        omega arith,
        (λ j x e alive z. ⊎_elim
            (λ (old : get_elem? (set l i w) j ≡ some x). each_set (λ _ (y : Sight F). y.live ≡ true → y.parts ≡ 0 → 0 < lost + gone) l i w (λ _ y. few y) (λ k y _ d a b. let h = p.2 k y d a b in omega arith) j x old alive z)
            (λ (new : (j ≡ length (set l i w)) × (u ≡ x)). let is : u.parts ≡ x.parts = ap (λ (y : Sight F). y.parts) new.1 in few (omega arith)) (at_end (set l i w) u x j e)),
      )

  -- a join adds the parts of the seat that is given up
  pub parted_join : (l : List (Sight F)) (i j : ℕ) (v w a b : Sight F) → get_elem? l i ≡ some v → v.live ≡ true → get_elem? (set l i a) j ≡ some w → a.parts ≡ v.parts + w.parts → b.parts ≡ 0 → ¬ (b.live ≡ true) → Parted l → Parted (set (set l i a) j b)
  parted_join l i j v w a b at live there both none gone p = let s = sum_set l i v a at in let t = sum_set (set l i a) j w b there in let q = p.1 in (
    p.0,
    omega arith,
    each_set (λ _ (u : Sight F). u.live ≡ true → u.parts ≡ 0 → 0 < p.0) (set l i a) j b (λ alive _. absurd (gone alive))
        (λ k u _ e. each_set (λ _ (u : Sight F). u.live ≡ true → u.parts ≡ 0 → 0 < p.0) l i a (λ _ z. p.2 i v at live (omega arith)) (λ m y _ d. p.2 m y d) k u e),
  )

  -- where a live seat stands for all parts, no other is live
  pub last_one : (l : List (Sight F)) (i j : ℕ) (v u : Sight F) → Parted l → get_elem? l i ≡ some v → v.live ≡ true → v.parts ≡ all_parts → get_elem? l j ≡ some u → u.live ≡ true → j ≡ i
  last_one l i j v u p at live all there alive = dite (ℕ_discrete j i) (λ e. e)
      (λ ne. let h = two_of l i j v u (λ e. ne (sym e)) at there in let q = p.1 in let lost = p.2 j u there alive (omega arith) in absurd (omega arith))
