-- The pairs of two lists, where both are cut at one place.
use Rattle.std.proofs.Common.{◌≡◌, ℕ, ◌+◌, min, List, [], ◌∷◌, ◌++◌, length, refl, sym, ◌∙◌, ap, arith, append-nil, length-append}
use Rattle.std.specs.List.{zip}
use Rattle.par_splitter.specs.Parts.{IsCutAt}
use Rattle.std.proofs.lemmas.List.{nil_from_length}
use Rattle.std.proofs.lemmas.Slice.Zip.{length-zip}

pub length-even_zip : {A B : Type 0} (xs : List A) (ys : List B) → length xs ≡ length ys → length (zip xs ys) ≡ length xs
length-even_zip xs ys even = length-zip xs ys ∙ omega (arith, even)

pub zip-append : {A B : Type 0} (xs xs' : List A) (ys ys' : List B) → length xs ≡ length ys → zip (xs ++ xs') (ys ++ ys') ≡ zip xs ys ++ zip xs' ys'
zip-append [] xs' [] ys' even = refl
zip-append [] xs' (y ∷ ys) ys' even = absurd (omega (arith, even))
zip-append (x ∷ xs) xs' [] ys' even = absurd (omega (arith, even))
zip-append (x ∷ xs) xs' (y ∷ ys) ys' even = ap (λ ps. (x, y) ∷ ps) (zip-append xs xs' ys ys' (omega (arith, even)))

-- nothing of the longer list is paired past the end of the shorter one
pub zip_trimmed : {A B : Type 0} (us : List A) (vs : List B) (xs xs' : List A) (ys ys' : List B) (n : ℕ) → us ≡ xs ++ xs' → vs ≡ ys ++ ys' → n ≡ min (length us) (length vs) → length xs ≡ min n (length us) → length ys ≡ min n (length vs) → zip xs ys ≡ zip us vs
zip_trimmed us vs xs xs' ys ys' n eu ev en ex ey =
    let lu : length us ≡ length xs + length xs' = rw eu (length-append xs xs') in
    let lv : length vs ≡ length ys + length ys' = rw ev (length-append ys ys') in
    let even : length xs ≡ length ys = omega arith in
    let rest : zip xs' ys' ≡ [] = nil_from_length _ (length-zip xs' ys' ∙ omega arith) in
    sym (rw (eu, ev) (zip-append xs xs' ys ys' even ∙ rw (rest, append-nil) refl))

-- both sides of a zip are cut at k
module _ {A B X Y : Type 0} (items_a : A → List X) (lo_a : A → ℕ) (items_b : B → List Y) (lo_b : B → ℕ) where
  pub even_cut : (s : A) (t : B) (k : ℕ) (a a' : A) (b b' : B) → length (items_a s) ≡ length (items_b t) → IsCutAt items_a lo_a s k a a' → IsCutAt items_b lo_b t k b b' → length (items_a a) ≡ length (items_b b)
  even_cut s t k a a' b b' even ca cb = omega (arith, even, ca.count, cb.count)

  pub pairs_joined : (s : A) (t : B) (k : ℕ) (a a' : A) (b b' : B) → length (items_a s) ≡ length (items_b t) → IsCutAt items_a lo_a s k a a' → IsCutAt items_b lo_b t k b b' → zip (items_a s) (items_b t) ≡ zip (items_a a) (items_b b) ++ zip (items_a a') (items_b b')
  pairs_joined s t k a a' b b' even ca cb =
      rw (ca.parts.joined, cb.parts.joined) (zip-append _ _ _ _ (even_cut s t k a a' b b' even ca cb))

  pub pairs_place : (s : A) (t : B) (k : ℕ) (a a' : A) (b b' : B) → length (items_a s) ≡ length (items_b t) → IsCutAt items_a lo_a s k a a' → IsCutAt items_b lo_b t k b b' → lo_a a' ≡ lo_a s + length (zip (items_a a) (items_b b))
  pairs_place s t k a a' b b' even ca cb =
      let n = length-even_zip _ _ (even_cut s t k a a' b b' even ca cb) in
      rw n ca.parts.lo_right

  pub pairs_count : (s : A) (t : B) (k : ℕ) (a a' : A) (b b' : B) → length (items_a s) ≡ length (items_b t) → IsCutAt items_a lo_a s k a a' → IsCutAt items_b lo_b t k b b' → length (zip (items_a a) (items_b b)) ≡ min k (length (zip (items_a s) (items_b t)))
  pairs_count s t k a a' b b' even ca cb =
      let n = length-even_zip _ _ (even_cut s t k a a' b b' even ca cb) in
      let m = length-even_zip _ _ even in
      rw (n, m) ca.count
