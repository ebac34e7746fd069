-- Lemmas on the slots of a wide level.
use Rattle.std.proofs.Common.{◌≡◌, ◌≢◌, ℕ, zero, suc, ◌/◌, ◌%◌, ◌<◌, List, [], ◌∷◌, ◌++◌, length, set, refl, ap, sym, ◌∙◌, append-nil, ⊎_elim}
use Rattle.std.specs.Prelude.{Some, slice_get}
use Rattle.std.proofs.lemmas.Bool.{cases_eq}
use Rattle.par_index.specs.declared.index.Leaf.{Leaf}
use Rattle.par_index.specs.Places.{places_of}
use Rattle.par_index.proofs.Places.{slice_get-set_same, slice_get-set_other}
use Rattle.par_trie.specs.declared.slot.Slot.{Slot}
use Rattle.par_trie.specs.Slots.{places_at, places_of_slot, places_in}
use Rattle.par_trie.proofs.Kids.{inner_places, no_places}

-- one more free slot holds nothing
free_slot : {N : Type 0} (f : N → ℕ → List ℕ) (slots : List (Slot N)) (free : Slot N) (d q : ℕ) → ((p : ℕ) → places_at f free p ≡ []) → places_of_slot f (slice_get (slots ++ free ∷ []) d) q ≡ places_of_slot f (slice_get slots d) q
free_slot f [] free zero q h = h q
free_slot f [] free (suc d) q h = refl
free_slot f (s ∷ slots) free zero q h = refl
free_slot f (s ∷ slots) free (suc d) q h = free_slot f slots free d q h

pub places_in-free : {N : Type 0} (f : N → ℕ → List ℕ) (slots : List (Slot N)) (free : Slot N) (q : ℕ) → ((p : ℕ) → places_at f free p ≡ []) → places_in f (slots ++ free ∷ []) q ≡ places_in f slots q
places_in-free f slots free q h = free_slot f slots free (q % 32) (q / 32) h

-- a slot with one more leaf
pub places_in-set : {N : Type 0} (f : N → ℕ → List ℕ) (slots : List (Slot N)) (old new : Slot N) (leaf inner : Leaf) (q : ℕ) → leaf.rest % 32 < length slots → slice_get slots (leaf.rest % 32) ≡ Some old → ((p : ℕ) → places_at f new p ≡ places_at f old p ++ places_of inner p) → inner.rest ≡ leaf.rest / 32 → inner.at ≡ leaf.at → places_in f (set slots (leaf.rest % 32) new) q ≡ places_in f slots q ++ places_of leaf q
places_in-set {N} f slots old new leaf inner q h was grown r a = ⊎_elim
    (λ (s : q % 32 ≡ leaf.rest % 32).
    let before : slice_get slots (q % 32) ≡ Some old = ap (λ d. slice_get slots d) s ∙ was in
    let after : slice_get (set slots (leaf.rest % 32) new) (q % 32) ≡ Some new = ap (λ d. slice_get (set slots (leaf.rest % 32) new) d) s ∙ slice_get-set_same slots new (leaf.rest % 32) h in
    ap (λ k. places_of_slot f k (q / 32)) after ∙ (grown (q / 32) ∙ (ap (λ ps. places_at f old (q / 32) ++ ps) (inner_places leaf inner q r a s) ∙ ap (λ k. places_of_slot f k (q / 32) ++ places_of leaf q) (sym before))))
    (λ (s : q % 32 ≢ leaf.rest % 32).
    ap (λ k. places_of_slot f k (q / 32)) (slice_get-set_other slots new (leaf.rest % 32) (q % 32) s) ∙ (sym (append-nil (places_in f slots q)) ∙ ap (λ ps. places_in f slots q ++ ps) (sym (no_places leaf q s))))
    (cases_eq (q % 32) (leaf.rest % 32))

-- a slot that is as it was
pub places_in-same : {N : Type 0} (f : N → ℕ → List ℕ) (slots : List (Slot N)) (old new : Slot N) (d q : ℕ) → d < length slots → slice_get slots d ≡ Some old → ((p : ℕ) → places_at f new p ≡ places_at f old p) → places_in f (set slots d new) q ≡ places_in f slots q
places_in-same {N} f slots old new d q h was same = ⊎_elim
    (λ (s : q % 32 ≡ d).
    let before : slice_get slots (q % 32) ≡ Some old = ap (λ d. slice_get slots d) s ∙ was in
    let after : slice_get (set slots d new) (q % 32) ≡ Some new = ap (λ e. slice_get (set slots d new) e) s ∙ slice_get-set_same slots new d h in
    ap (λ k. places_of_slot f k (q / 32)) after ∙ (same (q / 32) ∙ ap (λ k. places_of_slot f k (q / 32)) (sym before)))
    (λ (s : q % 32 ≢ d). ap (λ k. places_of_slot f k (q / 32)) (slice_get-set_other slots new d (q % 32) s))
    (cases_eq (q % 32) d)
