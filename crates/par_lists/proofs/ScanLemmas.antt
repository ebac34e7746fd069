-- Lemmas on scans.
use Rattle.std.proofs.Common.{◌≡◌, ℕ, zero, suc, ◌+◌, ◌≤◌, List, [], ◌∷◌, length, take, fold, slice_get, Some, refl, arith}
use Rattle.par_lists.specs.Scans.{scan}

pub length-scan : {A B : Type 0} (f : B → A → B) (a : B) (xs : List A) → length (scan f a xs) ≡ length xs + 1
length-scan f a [] = refl
length-scan f a (x ∷ xs) = omega (arith, length-scan f (f a x) xs)

pub slice_get-scan : {A B : Type 0} (f : B → A → B) (a : B) (xs : List A) (k : ℕ) → k ≤ length xs → slice_get (scan f a xs) k ≡ Some (fold f a (take k xs))
slice_get-scan f a [] zero within = refl
slice_get-scan f a [] (suc k) within = absurd (omega arith)
slice_get-scan f a (x ∷ xs) zero within = refl
slice_get-scan f a (x ∷ xs) (suc k) within = slice_get-scan f (f a x) xs k (omega arith)
