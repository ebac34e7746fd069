-- Lemmas on the kids of a branch.
use Rattle.std.proofs.Common.{◌≡◌, ℕ, zero, suc, ◌+◌, ◌/◌, ◌%◌, ◌<◌, ◌≤◌, ◌≢◌, List, [], ◌∷◌, ◌++◌, length, get_or, set, refl, ap, sym, ◌∙◌, append-nil, arith, ⊎_elim}
use Rattle.std.specs.Prelude.{Some, slice_get}
use Rattle.par_index.specs.declared.index.Leaf.{Leaf}
use Rattle.par_trie.specs.declared.kid.Kid.{Kid}
use Rattle.par_trie.specs.declared.kid.Kid.TheVariants.{One}
use Rattle.par_index.specs.Places.{places_of}
use Rattle.par_trie.specs.Places.{IsIndex}
use Rattle.par_trie.specs.Below.{places_at, places_of_kid, places_by, places_in}
use Rattle.par_index.proofs.Places.{slice_get-append, slice_get-last, slice_get-set_same, slice_get-set_other}
use Rattle.par_trie.proofs.Digits.{index_after, same_rest, other_rest}
use Rattle.std.proofs.lemmas.Bool.{cases_eq}

-- more kids change nothing for the entries of the index that are there
pub places_by-append : {N : Type 0} (f : N → ℕ → List ℕ) (kids : List (Kid N)) (kid : Kid N) (n q : ℕ) → n ≤ length kids → places_by f (kids ++ kid ∷ []) n q ≡ places_by f kids n q
places_by-append f kids kid zero q h = refl
places_by-append f kids kid (suc i) q h = ap (λ k. places_of_kid f k q) (slice_get-append kids kid i (omega arith))

pub places_by-last : {N : Type 0} (f : N → ℕ → List ℕ) (kids : List (Kid N)) (kid : Kid N) (n q : ℕ) → n ≡ suc (length kids) → places_by f (kids ++ kid ∷ []) n q ≡ places_at f kid q
places_by-last f kids kid n q e = ap (λ m. places_by f (kids ++ kid ∷ []) m q) e ∙ ap (λ k. places_of_kid f k q) (slice_get-last kids kid)

pub places_by-set_same : {N : Type 0} (f : N → ℕ → List ℕ) (kids : List (Kid N)) (kid : Kid N) (i n q : ℕ) → n ≡ suc i → i < length kids → places_by f (set kids i kid) n q ≡ places_at f kid q
places_by-set_same f kids kid i n q e h = ap (λ m. places_by f (set kids i kid) m q) e ∙ ap (λ k. places_of_kid f k q) (slice_get-set_same kids kid i h)

pub places_by-was : {N : Type 0} (f : N → ℕ → List ℕ) (kids : List (Kid N)) (kid : Kid N) (i n q : ℕ) → n ≡ suc i → slice_get kids i ≡ Some kid → places_by f kids n q ≡ places_at f kid q
places_by-was f kids kid i n q e h = ap (λ m. places_by f kids m q) e ∙ ap (λ k. places_of_kid f k q) h

pub places_by-set_other : {N : Type 0} (f : N → ℕ → List ℕ) (kids : List (Kid N)) (kid : Kid N) (i m q : ℕ) → m ≢ suc i → places_by f (set kids i kid) m q ≡ places_by f kids m q
places_by-set_other f kids kid i zero q h = refl
places_by-set_other f kids kid i (suc j) q h = ap (λ k. places_of_kid f k q) (slice_get-set_other kids kid i j (λ e. h (ap suc e)))

pub inner_places : (leaf inner : Leaf) (q : ℕ) → inner.rest ≡ leaf.rest / 32 → inner.at ≡ leaf.at → q % 32 ≡ leaf.rest % 32 → places_of inner (q / 32) ≡ places_of leaf q
inner_places leaf inner q r a d = rw (r, a, same_rest leaf.rest q (sym d)) refl

pub no_places : (leaf : Leaf) (q : ℕ) → q % 32 ≢ leaf.rest % 32 → places_of leaf q ≡ []
no_places leaf q d = rw (other_rest leaf.rest q (λ e. d (sym e))) refl

-- a first kid below a digit
pub places_in-append : {N : Type 0} (f : N → ℕ → List ℕ) (index : List ℕ) (kids : List (Kid N)) (leaf inner : Leaf) (q : ℕ) → IsIndex index (length kids) → leaf.rest % 32 < length index → get_or index (leaf.rest % 32) 0 ≡ 0 → inner.rest ≡ leaf.rest / 32 → inner.at ≡ leaf.at → places_in f (set index (leaf.rest % 32) (length kids + 1)) (kids ++ One inner ∷ []) q ≡ places_in f index kids q ++ places_of leaf q
places_in-append {N} f index kids leaf inner q is h z r a = ⊎_elim
    (λ (s : (q % 32 ≡ leaf.rest % 32) × (get_or (set index (leaf.rest % 32) (length kids + 1)) (q % 32) 0 ≡ length kids + 1)).
    let before : get_or index (q % 32) 0 ≡ 0 = ap (λ d. get_or index d 0) s.0 ∙ z in
    ap (λ n. places_by f (kids ++ One inner ∷ []) n (q / 32)) s.1 ∙ (places_by-last f kids (One inner) (length kids + 1) (q / 32) (omega arith) ∙ (inner_places leaf inner q r a s.0 ∙ sym (ap (λ n. places_by f kids n (q / 32) ++ places_of leaf q) before))))
    (λ (s : (q % 32 ≢ leaf.rest % 32) × (get_or (set index (leaf.rest % 32) (length kids + 1)) (q % 32) 0 ≡ get_or index (q % 32) 0)).
    ap (λ n. places_by f (kids ++ One inner ∷ []) n (q / 32)) s.1 ∙ (places_by-append f kids (One inner) (get_or index (q % 32) 0) (q / 32) (is.within (q % 32)) ∙ (sym (append-nil (places_in f index kids q)) ∙ ap (λ ps. places_in f index kids q ++ ps) (sym (no_places leaf q s.0)))))
    (index_after index (leaf.rest % 32) (length kids + 1) h (q % 32))

-- a kid that has changed by a leaf
pub places_in-set : {N : Type 0} (f : N → ℕ → List ℕ) (index : List ℕ) (kids : List (Kid N)) (old new : Kid N) (leaf inner : Leaf) (i q : ℕ) → IsIndex index (length kids) → get_or index (leaf.rest % 32) 0 ≡ suc i → slice_get kids i ≡ Some old → ((p : ℕ) → places_at f new p ≡ places_at f old p ++ places_of inner p) → inner.rest ≡ leaf.rest / 32 → inner.at ≡ leaf.at → places_in f index (set kids i new) q ≡ places_in f index kids q ++ places_of leaf q
places_in-set {N} f index kids old new leaf inner i q is p was grown r a = ⊎_elim
    (λ (s : q % 32 ≡ leaf.rest % 32).
    let e : get_or index (q % 32) 0 ≡ suc i = ap (λ d. get_or index d 0) s ∙ p in
    let within : i < length kids = omega (arith, is.within (q % 32)) in
    places_by-set_same f kids new i (get_or index (q % 32) 0) (q / 32) e within ∙ (grown (q / 32) ∙ (ap (λ ps. places_at f old (q / 32) ++ ps) (inner_places leaf inner q r a s) ∙ ap (λ ps. ps ++ places_of leaf q) (sym (places_by-was f kids old i (get_or index (q % 32) 0) (q / 32) e was)))))
    (λ (s : q % 32 ≢ leaf.rest % 32).
    places_by-set_other f kids new i (get_or index (q % 32) 0) (q / 32) (λ e. s (is.apart (q % 32) (leaf.rest % 32) (omega (arith, e)) (e ∙ sym p))) ∙ (sym (append-nil (places_in f index kids q)) ∙ ap (λ ps. places_in f index kids q ++ ps) (sym (no_places leaf q s))))
    (cases_eq (q % 32) (leaf.rest % 32))

-- a kid that is as it was
pub places_in-same : {N : Type 0} (f : N → ℕ → List ℕ) (index : List ℕ) (kids : List (Kid N)) (old new : Kid N) (i q : ℕ) → IsIndex index (length kids) → slice_get kids i ≡ Some old → i < length kids → ((p : ℕ) → places_at f new p ≡ places_at f old p) → places_in f index (set kids i new) q ≡ places_in f index kids q
places_in-same {N} f index kids old new i q is was within same = ⊎_elim
    (λ (e : get_or index (q % 32) 0 ≡ suc i). places_by-set_same f kids new i (get_or index (q % 32) 0) (q / 32) e within ∙ (same (q / 32) ∙ sym (places_by-was f kids old i (get_or index (q % 32) 0) (q / 32) e was)))
    (λ (s : get_or index (q % 32) 0 ≢ suc i). places_by-set_other f kids new i (get_or index (q % 32) 0) (q / 32) s)
    (cases_eq (get_or index (q % 32) 0) (suc i))
