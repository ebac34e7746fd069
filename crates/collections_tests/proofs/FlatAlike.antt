-- The three keys of one hash that a test puts into a block, and the 31 empty blocks after it.
use Rattle.std.proofs.Common.{◌≡◌, ℕ, zero, suc, ◌+◌, ◌≤◌, List, [], ◌∷◌, ◌++◌, length, replicate, refl, ap, sym, ◌∙◌, arith, append_assoc, append-nil, length-append, subst}
use Rattle.std.specs.Prelude.{Option, Some, None, slice_get, ℤ, pos, negsuc}
use Rattle.par_laws.specs.Hash.{int_hash, mixed}
use Rattle.par_index.specs.Entries.{joined}
use Rattle.par_flat.specs.Rooms.{bucket_of_hash}
use Rattle.par_flat.specs.Blocks.{AreOfBucket, AreKeyBuckets}

abbrev pub three : List ℤ
three = pos 0 ∷ pos 4294967297 ∷ negsuc 0 ∷ []

pub three_of_bucket : AreOfBucket (λ (k : ℤ). bucket_of_hash (int_hash k)) 0 three
unfolding int_hash mixed
three_of_bucket = (refl, (refl, (refl, tt)))

empty_at : (ks : List ℤ) (n i b : ℕ) → slice_get (replicate n []) i ≡ Some ks → AreOfBucket (λ (k : ℤ). bucket_of_hash (int_hash k)) b ks
empty_at ks zero i b e = cc
empty_at ks (suc n) zero b e = let none : ks ≡ [] = cc in subst (λ xs. AreOfBucket (λ (k : ℤ). bucket_of_hash (int_hash k)) b xs) (sym none) tt
empty_at ks (suc n) (suc i) b e = empty_at ks n i b e

-- the block, and empty blocks
pub first_and_empty : (first ks : List ℤ) (n i : ℕ) → AreOfBucket (λ (k : ℤ). bucket_of_hash (int_hash k)) 0 first → slice_get (first ∷ replicate n []) i ≡ Some ks → AreOfBucket (λ (k : ℤ). bucket_of_hash (int_hash k)) i ks
first_and_empty first ks n zero is e = let same : first ≡ ks = cc in subst (λ xs. AreOfBucket (λ (k : ℤ). bucket_of_hash (int_hash k)) 0 xs) same is
first_and_empty first ks n (suc i) is e = empty_at ks n i (suc i) e

joined_none : (n : ℕ) → joined {X = ℤ} (replicate n []) ≡ []
joined_none zero = refl
joined_none (suc n) = joined_none n

pub first_room : (first : List ℤ) (n : ℕ) → length (joined (first ∷ replicate n [])) ≡ length first
first_room first n = ap (λ (xs : List ℤ). length (first ++ xs)) (joined_none n) ∙ ap length (append-nil first)

pub length_empty : (n : ℕ) → length (replicate {A = List ℤ} n []) ≡ n
length_empty zero = refl
length_empty (suc n) = ap suc (length_empty n)

pub more_empty : (n : ℕ) → replicate {A = List ℤ} n [] ++ [] ∷ [] ≡ replicate (n + 1) []
more_empty zero = refl
more_empty (suc n) =
    let more : suc (n + 1) ≡ suc n + 1 = omega arith in
    ap (λ (xs : List (List ℤ)). [] ∷ xs) (more_empty n) ∙ ap (λ (m : ℕ). replicate {A = List ℤ} m []) more
