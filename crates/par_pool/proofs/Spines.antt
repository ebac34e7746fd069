-- The left spine below a node, and the trees to the right of it.
use Rattle.std.proofs.Common.{◌≡◌, ℕ, zero, suc, ◌+◌, ◌*◌, ◌/◌, ◌^◌, ◌≤◌, ◌<◌, ◌⊎◌, inl, inr, length, sym, refl, ap, ◌∙◌, subst, arith, Bool, true, false, true≢false}
use Rattle.std.proofs.Math.Nat.{pow-suc}
use Rattle.par_board.specs.Tree.{below, TreeLaws}
use Rattle.par_task.specs.Alone.{tail_nodes}

pub not_true : (b : Bool) → (b ≡ true → ⊥) → b ≡ false
not_true true h = absurd (h refl)
not_true false h = refl

pub true_or : (b : Bool) → (b ≡ true) ⊎ (b ≡ false)
true_or true = inl refl
true_or false = inr refl

-- m is a, or below it
abbrev pub In : ℕ → ℕ → Type 0
In a m = (m ≡ a) ⊎ (below a m ≡ true)

pub pow_next : (a d : ℕ) → a * 2 ^ (suc d) ≡ 2 * (a * 2 ^ d)
pow_next a d = rw pow-suc (omega arith)

pub length-tail_nodes : (at d : ℕ) → length (tail_nodes at d) ≡ d
length-tail_nodes at zero = refl
length-tail_nodes at (suc d) = ap suc (length-tail_nodes at d)

pow_double : (k e : ℕ) → k * 2 ^ suc e ≡ (2 * k) * 2 ^ e
pow_double k zero = omega arith
pow_double k (suc e) = let a = pow_next k (suc e) in let b = pow_double k e in let c = pow_next (2 * k) e in omega (arith, a, b, c)

pub pow_more : (k e : ℕ) → k ≤ k * 2 ^ e
pow_more k zero = omega arith
pow_more k (suc e) = let a = pow_next k e in let b = pow_more k e in omega (arith, a, b)

-- the two children of a node of the spine
module _ (k e : ℕ) (pos : 0 < k) where
  abbrev pub left : ℕ
  left = k * 2 ^ suc e

  abbrev pub up : ℕ
  up = k * 2 ^ e

  pub left_is : left ≡ 2 * up
  left_is = pow_next k e

  pub up_pos : 0 < up
  up_pos = let a = pow_more k e in omega (arith, a)

  pub left_half : left / 2 ≡ up
  left_half = let a = left_is in let u : ℕ = up in let l : ℕ = left in omega (arith, a)

  pub right_half : (left + 1) / 2 ≡ up
  right_half = let a = left_is in let u : ℕ = up in let l : ℕ = left in omega (arith, a)

module _ (laws : TreeLaws) where
  -- what is a child of the parent or below a child is below the parent
  pub in_child : (k c m : ℕ) → 0 < k → m < 2048 → c / 2 ≡ k → In c m → below k m ≡ true
  in_child k c m pos near is (inl e) = subst (λ (x : ℕ). below k x ≡ true) (sym e) (laws.child_below k c is)
  in_child k c m pos near is (inr e) = laws.below_child k c m pos near is e

  -- the same for a node further down the spine, or the one to its right
  pub in_spine : (e k b m : ℕ) → 0 < k → m < 2048 → b ≤ 1 → In (k * 2 ^ suc e + b) m → below k m ≡ true
  in_spine zero k b m pos near h i = let a : k * 2 ^ 1 ≡ 2 * k = omega arith in in_child k (k * 2 ^ 1 + b) m pos near (omega (arith, a, h)) i
  in_spine (suc e) k b m pos near h i =
      let a = pow_double k (suc e) in
      laws.below_child k (2 * k) m pos near (omega arith) (in_spine e (2 * k) b m (omega arith) near h (subst (λ (x : ℕ). In (x + b) m) a i))

  -- nothing at or below the right child is at or below the left one
  pub right_out : (k e : ℕ) → 0 < k → (m : ℕ) → In (k * 2 ^ suc e + 1) m → In (k * 2 ^ suc e) m → ⊥
  right_out k e pos m i j =
      let l : ℕ = k * 2 ^ suc e in
      let u = up_pos k e pos in
      let d = left_is k e pos in
      let same : (l + 1) / 2 ≡ l / 2 = right_half k e pos ∙ sym (left_half k e pos) in
      elim i [
        | inl r ↦ elim j [
          | inl s ↦ omega (arith, r, s)
          | inr s ↦ true≢false (sym (subst (λ (x : ℕ). below l x ≡ true) r s) ∙ laws.no_sibling l (l + 1) (omega arith) (sym same) (omega (arith, d, u)) (omega arith))
        ]
        | inr r ↦ elim j [
          | inl s ↦ let a = laws.greater (l + 1) m (omega arith) r in omega (arith, a, s)
          | inr s ↦ laws.apart (l + 1) l m (omega arith) same (omega arith) (omega (arith, d, u)) r s
        ]
      ]

  pub not_self : (k : ℕ) → 0 < k → below k k ≡ false
  not_self k pos = not_true (below k k) (λ z. let a = laws.greater k k pos z in absurd (omega (arith, a)))
