-- The two keys of one hash that a test puts into bucket 0, with 31 empty maps after them.
use Rattle.std.proofs.Common.{◌≡◌, ℕ, zero, suc, ◌+◌, List, [], ◌∷◌, ◌++◌, length, replicate, refl, ap, subst, ◌∙◌, arith}
use Rattle.std.specs.Prelude.{Some, None, slice_get, ℤ, pos}
use Rattle.par_laws.specs.Hash.{int_hash, mixed}
use Rattle.par_index.specs.Entries.{joined, AreBuckets}
use Rattle.par_trie.specs.Buckets.{bucket_of_hash}

first_bucket : bucket_of_hash (int_hash (pos 0)) ≡ 0
unfolding int_hash mixed
first_bucket = refl

second_bucket : bucket_of_hash (int_hash (pos 4294967297)) ≡ 0
unfolding int_hash mixed
second_bucket = refl

abbrev pub two : List (ℤ × ℕ)
two = (pos 0, 10) ∷ (pos 4294967297, 20) ∷ []

nothing_in : {X : Type 0} (n i j : ℕ) (es : List X) (e : X) → slice_get (replicate n []) i ≡ Some es → slice_get es j ≡ Some e → ⊥
nothing_in zero i j es e p q = cc
nothing_in (suc n) zero j es e p q = let none : es ≡ [] = cc in cc
nothing_in (suc n) (suc i) j es e p q = nothing_in n i j es e p q

pub two_buckets : (n : ℕ) → AreBuckets (λ (k : ℤ). bucket_of_hash (int_hash k)) (two ∷ replicate n [])
two_buckets n zero es p zero e q =
    let same : two ≡ es = cc in
    let here : Some (pos 0, 10) ≡ Some e = ap (λ (xs : List (ℤ × ℕ)). slice_get xs 0) same ∙ q in
    let entry : (pos 0, 10) ≡ e = cc in
    subst (λ (x : ℤ × ℕ). bucket_of_hash (int_hash x.0) ≡ 0) entry first_bucket
two_buckets n zero es p (suc zero) e q =
    let same : two ≡ es = cc in
    let here : Some (pos 4294967297, 20) ≡ Some e = ap (λ (xs : List (ℤ × ℕ)). slice_get xs 1) same ∙ q in
    let entry : (pos 4294967297, 20) ≡ e = cc in
    subst (λ (x : ℤ × ℕ). bucket_of_hash (int_hash x.0) ≡ 0) entry second_bucket
two_buckets n zero es p (suc (suc j)) e q =
    let same : two ≡ es = cc in
    let none : None ≡ Some e = ap (λ (xs : List (ℤ × ℕ)). slice_get xs (suc (suc j))) same ∙ q in
    cc
two_buckets n (suc i) es p j e q = absurd (nothing_in n i j es e p q)

joined_none : (n : ℕ) → joined {X = ℤ × ℕ} (replicate n []) ≡ []
joined_none zero = refl
joined_none (suc n) = joined_none n

pub two_room : (n : ℕ) → length (joined (two ∷ replicate n [])) ≡ 2
two_room n = ap (λ (xs : List (ℤ × ℕ)). length (two ++ xs)) (joined_none n)

pub length_empty : (n : ℕ) → length (replicate {A = List (ℤ × ℕ)} n []) ≡ n
length_empty zero = refl
length_empty (suc n) = ap suc (length_empty n)

more_empty : (n : ℕ) → replicate {A = List (ℤ × ℕ)} n [] ++ [] ∷ [] ≡ replicate (n + 1) []
more_empty zero = refl
more_empty (suc n) =
    let more : suc (n + 1) ≡ suc n + 1 = omega arith in
    ap (λ (xs : List (List (ℤ × ℕ))). [] ∷ xs) (more_empty n) ∙ ap (λ (m : ℕ). replicate {A = List (ℤ × ℕ)} m []) more

pub one_more : (maps : List (List (ℤ × ℕ))) (n : ℕ) → maps ≡ two ∷ replicate n [] → maps ++ [] ∷ [] ≡ two ∷ replicate (n + 1) []
one_more maps n e = ap (λ (xs : List (List (ℤ × ℕ))). xs ++ [] ∷ []) e ∙ ap (λ (xs : List (List (ℤ × ℕ))). two ∷ xs) (more_empty n)
