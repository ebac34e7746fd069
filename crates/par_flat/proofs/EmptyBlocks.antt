-- Lemmas on lists of empty lists.
use Rattle.std.proofs.Common.{◌≡◌, ◌∙◌, ℕ, zero, suc, ◌+◌, arith, List, [], ◌∷◌, ◌++◌, length, replicate, refl, ap}
use Rattle.std.specs.Prelude.{Some, slice_get}
use Rattle.par_index.specs.Entries.{joined}

pub empty_at : {A : Type 0} (n i : ℕ) (xs : List A) → slice_get (replicate {A = List A} n []) i ≡ Some xs → xs ≡ []
empty_at zero i xs e = cc
empty_at (suc n) zero xs e = cc
empty_at (suc n) (suc i) xs e = empty_at n i xs e

pub joined_empty : {A : Type 0} (n : ℕ) → joined (replicate {A = List A} n []) ≡ []
joined_empty zero = refl
joined_empty {A = A} (suc n) = joined_empty {A = A} n

pub length_empty : (A : Type 0) (n : ℕ) → length (replicate {A = List A} n []) ≡ n
length_empty A zero = refl
length_empty A (suc n) = ap suc (length_empty A n)

pub more_empty : {A : Type 0} (n : ℕ) → replicate {A = List A} n [] ++ [] ∷ [] ≡ replicate (n + 1) []
more_empty zero = refl
more_empty {A = A} (suc n) =
    let more : suc (n + 1) ≡ suc n + 1 = omega arith in
    ap (λ (xs : List (List A)). [] ∷ xs) (more_empty {A = A} n) ∙ ap (λ (m : ℕ). replicate {A = List A} m []) more
