-- Lemmas on a few leaves side by side.
use Rattle.std.proofs.Common.{◌≡◌, ℕ, zero, suc, ◌+◌, ◌<◌, Bool, true, false, ◌||◌, List, [], ◌∷◌, ◌++◌, length, get_or, set, take, refl, ap, sym, ◌∙◌, append_assoc, append-nil, true≢false, arith}
use Rattle.std.specs.Prelude.{Option, Some, None, IfNone, slice_get, ◌≢◌}
use Rattle.std.proofs.lemmas.Bool.Decides.{nat_tests}
use Rattle.par_index.specs.declared.index.Leaf.{Leaf}
use Rattle.par_index.specs.Places.{is_among, places_of, first_such}
use Rattle.par_index.proofs.Places.{is_among-append, first_such-absent}
use Rattle.par_trie.specs.Places.{places_among, IsLikely}

-- a leaf written after the first n
pub places_among-set : (leaves : List Leaf) (leaf : Leaf) (n q : ℕ) → n < length leaves → places_among (take (n + 1) (set leaves n leaf)) q ≡ places_among (take n leaves) q ++ places_of leaf q
places_among-set [] leaf n q h = absurd (omega arith)
places_among-set (l ∷ leaves) leaf zero q h = append-nil (places_of leaf q)
places_among-set (l ∷ leaves) leaf (suc n) q h =
    let more : suc n + 1 ≡ suc (n + 1) = omega arith in
    ap (λ m. places_among (take m (l ∷ set leaves n leaf)) q) more ∙ ap (λ ps. places_of l q ++ ps) (places_among-set leaves leaf n q (omega arith)) ∙ sym (append_assoc (places_of l q) (places_among (take n leaves) q) (places_of leaf q))

or_more : (b c d : Bool) → (c ≡ true → d ≡ true) → (b || c) ≡ true → (b || d) ≡ true
or_more true c d f h = refl
or_more false c d f h = f h

-- what is among the first leaves is among all
among_all : (leaves : List Leaf) (n q at : ℕ) → is_among at (places_among (take n leaves) q) ≡ true → is_among at (places_among leaves q) ≡ true
among_all [] zero q at h = h
among_all [] (suc n) q at h = h
among_all (l ∷ leaves) zero q at h = absurd (true≢false (sym h))
among_all (l ∷ leaves) (suc n) q at h =
    is_among-append at (places_of l q) (places_among leaves q)
    ∙ or_more (is_among at (places_of l q)) (is_among at (places_among (take n leaves) q)) (is_among at (places_among leaves q)) (among_all leaves n q at) (sym (is_among-append at (places_of l q) (places_among (take n leaves) q)) ∙ h)

-- where the likely leaf has another rest, none has this one
pub absent_likely : (w : ℕ → Bool) (leaves : List Leaf) (n q i : ℕ) (leaf : Leaf) → IsLikely leaves q i → slice_get leaves i ≡ Some leaf → leaf.rest ≢ q → (at : ℕ) → is_among at (places_among (take n leaves) q) ≡ true → w at ≡ false
absent_likely w leaves n q i leaf likely is other at h = absurd (true≢false (sym (among_all leaves n q at h) ∙ ap (is_among at) (likely leaf is other)))

-- where none of three leaves has the rest, nothing stands under it
pub none_of_three : (leaves : List Leaf) (q : ℕ) (leaf d : Leaf) → length leaves ≡ 3 → (get_or leaves 0 d).rest ≢ q → (get_or leaves 1 d).rest ≢ q → slice_get leaves 2 ≡ Some leaf → leaf.rest ≢ q → places_among leaves q ≡ []
none_of_three [] q leaf d h a b is other = absurd (omega arith)
none_of_three (x ∷ []) q leaf d h a b is other = absurd (omega arith)
none_of_three (x ∷ y ∷ []) q leaf d h a b is other = absurd (omega arith)
none_of_three (x ∷ y ∷ z ∷ []) q leaf d h a b is other = grind (arith, nat_tests)
none_of_three (x ∷ y ∷ z ∷ w ∷ more) q leaf d h a b is other = absurd (omega arith)

-- the second leaf is the one at 1
pub second_has : (leaves : List Leaf) (q i : ℕ) (leaf d : Leaf) → i ≡ 1 → (get_or leaves 1 d).rest ≡ q → slice_get leaves i ≡ Some leaf → leaf.rest ≡ q
second_has [] q i leaf d e r is = cc
second_has (x ∷ []) q i leaf d e r is =
    let none : None ≡ Some leaf = sym (ap (slice_get (x ∷ [])) e) ∙ is in
    cc
second_has (x ∷ y ∷ more) q i leaf d e r is =
    let here : Some y ≡ Some leaf = sym (ap (slice_get (x ∷ y ∷ more)) e) ∙ is in
    let same : y ≡ leaf = cc in
    sym (ap (λ (l : Leaf). l.rest) same) ∙ r

-- what is not found among all is not among the first
pub absent_first : (w : ℕ → Bool) (leaves : List Leaf) (n q : ℕ) (r : Option ℕ) → r ≡ first_such w (places_among leaves q) → IfNone r ((at : ℕ) → is_among at (places_among (take n leaves) q) ≡ true → w at ≡ false)
absent_first w leaves n q None e = λ at h. first_such-absent w (places_among leaves q) None e at (among_all leaves n q at h)
absent_first w leaves n q (Some i) e = tt
