-- The stock builders join as their lists do.
use Rattle.std.proofs.Common.{◌≡◌, ℕ, ◌+◌, List, [], ◌∷◌, ◌++◌, length, map, length-append, refl, ap, sym, ◌∙◌, arith}
use Rattle.std.proofs.lemmas.List.{map-append}
use Rattle.std.specs.List.{fold}
use Rattle.std.proofs.lemmas.List.Sums.{fold-append}
use Rattle.par_jobs.specs.declared.stock.Nothing.{Nothing}

pub one_nothing : (c d : Nothing) → c ≡ d
one_nothing c d = refl

pub count_joins : {X : Type 0} (xs ys : List X) (m n k : ℕ) → m ≡ length xs → n ≡ length ys → k ≡ m + n → k ≡ length (xs ++ ys)
count_joins xs ys m n k p q e = omega (arith, p, q, e, length-append xs ys)

pub list_joins : {X U : Type 0} (f : X → U) (xs ys : List X) (v w c : List U) → v ≡ map f xs → w ≡ map f ys → c ≡ v ++ w → c ≡ map f (xs ++ ys)
list_joins f xs ys v w c p q e = e ∙ (ap (λ z. z ++ w) p ∙ (ap (λ z. map f xs ++ z) q ∙ sym (map-append f xs ys)))

module _ {X T : Type 0} (value : T → Type 0) (unit : T) (joined : T → T → T) (gathered : T → X → T) (unit_second : (a : T) → value a → joined a unit ≡ a) (adds : (a b : T) (x : X) → gathered (joined a b) x ≡ joined a (gathered b x)) where
  -- to fold on from a joined value is to join with what is folded on from the second
  fold_after : (a b : T) (ys : List X) → fold gathered (joined a b) ys ≡ joined a (fold gathered b ys)
  fold_after a b [] = refl
  fold_after a b (y ∷ ys) = ap (λ v. fold gathered v ys) (adds a b y) ∙ fold_after a (gathered b y) ys

  pub fold_joins :
      (xs ys : List X) (v w c : T) → value v × (v ≡ fold gathered unit xs) → value w × (w ≡ fold gathered unit ys) → value c × (c ≡ joined v w) → value c × (c ≡ fold gathered unit (xs ++ ys))
  fold_joins xs ys v w c p q e = (
    e.0,
    e.1
        ∙ (ap (joined v) q.1
        ∙ (sym (fold_after v unit ys)
        ∙ (ap (λ z. fold gathered z ys) (unit_second v p.0)
        ∙ (ap (λ z. fold gathered z ys) p.1
        ∙ sym (fold-append gathered unit xs ys))))),
  )

pub one_fold : {T : Type 0} (value : T → Type 0) (a c d : T) → value c × (c ≡ a) → value d × (d ≡ a) → c ≡ d
one_fold value a c d p q = p.1 ∙ sym q.1
