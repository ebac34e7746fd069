-- What the tree of nodes is like.
use Rattle.std.proofs.Common.{◌≡◌, ◌≢◌, ℕ, zero, suc, ◌*◌, ◌/◌, ◌<◌, sym, refl, ap, ◌∙◌, subst, arith, Bool, true, false, ◌||◌, eqb, eq-eqb, ne_eqb, true≢false}
use mathlib.Core.Logic.{dite}
use native.Mathlib.Decide.{ℕ_discrete}
use Rattle.par_board.specs.Tree.{under, below, TreeLaws}
use Rattle.par_board.proofs.Tables.{under_less}

-- one step of the search for an ancestor
under_cases : (fuel k m : ℕ) (F : Type 0) → under (suc fuel) k m ≡ true → (m / 2 ≡ k → F) → (under fuel k (m / 2) ≡ true → F) → F
under_cases fuel k m F e here there = dite (ℕ_discrete (m / 2) k) here (λ ne. there (sym (ap (λ b. b || under fuel k (m / 2)) (ne_eqb (m / 2) k ne)) ∙ e))

under_here : (fuel k m : ℕ) → m / 2 ≡ k → under (suc fuel) k m ≡ true
under_here fuel k m e = ap (λ b. b || under fuel k (m / 2)) (eq-eqb (m / 2) k e)

or_true : (b : Bool) → (b || true) ≡ true
or_true true = refl
or_true false = refl

under_there : (fuel k m : ℕ) → under fuel k (m / 2) ≡ true → under (suc fuel) k m ≡ true
under_there fuel k m e = ap (λ b. eqb (m / 2) k || b) e ∙ or_true (eqb (m / 2) k)

-- what is below a child is below the parent, one step deeper
under_child : (fuel k c m : ℕ) → c / 2 ≡ k → under fuel c m ≡ true → under (suc fuel) k m ≡ true
under_child zero k c m is e = absurd (true≢false (sym e))
under_child (suc fuel) k c m is e = under_cases fuel c m (under (suc (suc fuel)) k m ≡ true) e
    (λ here. under_there (suc fuel) k m (under_here fuel k (m / 2) (ap (λ x. x / 2) here ∙ is)))
    (λ there. under_there (suc fuel) k m (under_child fuel k c (m / 2) is there))

abbrev twice : ℕ → ℕ
twice zero = 2
twice (suc n) = 2 * twice n

-- a number has no more ancestors than binary digits
under_enough : (fuel k m : ℕ) → 0 < k → m < twice fuel → under (suc fuel) k m ≡ true → under fuel k m ≡ true
under_enough zero k m pos small e = under_cases zero k m (under zero k m ≡ true) e (λ here. let s : m < 2 = small in absurd (omega arith)) (λ there. there)
under_enough (suc fuel) k m pos small e = under_cases (suc fuel) k m (under (suc fuel) k m ≡ true) e (λ here. under_here fuel k m here)
    (λ there. under_there fuel k m (under_enough fuel k (m / 2) pos (let p : ℕ = twice fuel in let s : m < 2 * p = small in let q : m / 2 < p = omega arith in q) there))

-- no sibling is below the other
sibling : (f a b : ℕ) → a ≢ b → a / 2 ≡ b / 2 → 0 < a → under f a b ≡ true → ⊥
sibling zero a b ne same pa e = true≢false (sym e)
sibling (suc f) a b ne same pa e = under_cases f a b ⊥ e (λ here. omega arith) (λ there. true≢false (sym there ∙ under_less f a (b / 2) pa (omega arith)))

-- siblings have nothing below in common
under_apart : (f g a b m : ℕ) → a ≢ b → a / 2 ≡ b / 2 → 0 < a → 0 < b → under f a m ≡ true → under g b m ≡ true → ⊥
under_apart zero g a b m ne same pa pb e e' = true≢false (sym e)
under_apart (suc f) zero a b m ne same pa pb e e' = true≢false (sym e')
under_apart (suc f) (suc g) a b m ne same pa pb e e' = under_cases f a m ⊥ e
    (λ here. under_cases g b m ⊥ e' (λ here'. ne (sym here ∙ here')) (λ there'. sibling g b a (λ z. ne (sym z)) (sym same) pb (subst (λ x. under g b x ≡ true) here there')))
    (λ there. under_cases g b m ⊥ e' (λ here'. sibling f a b ne same pa (subst (λ x. under f a x ≡ true) here' there)) (λ there'. under_apart f g a b (m / 2) ne same pa pb there there'))

is_false : (b : Bool) → (b ≡ true → ⊥) → b ≡ false
is_false true never = absurd (never refl)
is_false false never = refl

pub below_child : (k c m : ℕ) → 0 < k → m < 2048 → c / 2 ≡ k → below c m ≡ true → below k m ≡ true
unfolding below
below_child k c m pos small is e = under_enough 10 k m pos small (under_child 10 k c m is e)

pub child_below : (k c : ℕ) → c / 2 ≡ k → below k c ≡ true
unfolding below
child_below k c is = under_here 9 k c is

pub below_apart : (a b m : ℕ) → a ≢ b → a / 2 ≡ b / 2 → 0 < a → 0 < b → below a m ≡ true → below b m ≡ true → ⊥
unfolding below
below_apart a b m ne same pa pb e e' = under_apart 10 10 a b m ne same pa pb e e'

pub below_more : (k m : ℕ) → 0 < k → below k m ≡ true → k < m
unfolding below
below_more k m pos e = dite (native.Mathlib.Decide.dec_le m k) (λ le. absurd (true≢false (sym e ∙ under_less 10 k m pos le))) (λ no. omega arith)

pub no_sibling : (a b : ℕ) → a ≢ b → a / 2 ≡ b / 2 → 0 < a → 0 < b → below a b ≡ false
unfolding below
no_sibling a b ne same pa pb = is_false (under 10 a b) (λ e. sibling 10 a b ne same pa e)

pub tree_laws : TreeLaws
tree_laws = record { child_below = child_below; below_child = below_child; apart = below_apart; no_sibling = no_sibling; greater = below_more }
