-- Lemmas on two levels of which the lower one's slots stand in rows.
use Rattle.std.proofs.Common.{◌≡◌, ◌≢◌, ℕ, zero, suc, ◌+◌, ◌*◌, ◌/◌, ◌%◌, ◌<◌, ◌≤◌, List, [], ◌∷◌, ◌++◌, length, get_or, set, replicate, refl, ap, sym, ◌∙◌, append-nil, arith, ⊎_elim}
use Rattle.std.specs.Prelude.{Option, Some, None, Result, Ok, Err, OnErr, slice_get}
use Rattle.std.proofs.lemmas.Bool.{cases_eq}
use Rattle.par_index.specs.declared.index.Leaf.{Leaf}
use Rattle.par_index.specs.Places.{places_of}
use Rattle.par_index.proofs.Places.{slice_get-left, slice_get-set_same, slice_get-set_other}
use Rattle.par_trie.specs.declared.leaves.Few.{Few}
use Rattle.par_trie.specs.declared.slot.Slot.{Slot}
use Rattle.par_trie.specs.Places.{places_of_few, IsIndex}
use Rattle.par_trie.specs.Slots.{places_at, places_of_slot}
use Rattle.par_trie.specs.Slots as below
use Rattle.par_trie.specs.Rows.{places_in_row, places_of_some, places_by, places_in}
use Rattle.par_trie.proofs.Digits.{index_after, nothing_at}
use Rattle.par_trie.proofs.Kids.{inner_places, no_places}

-- a row's slot with one more leaf
pub places_in_row-set : {N : Type 0} (f : N → ℕ → List ℕ) (slots : List (Slot N)) (old new : Slot N) (leaf inner : Leaf) (i q : ℕ) → i * 32 + leaf.rest % 32 < length slots → slice_get slots (i * 32 + leaf.rest % 32) ≡ Some old → ((p : ℕ) → places_at f new p ≡ places_at f old p ++ places_of inner p) → inner.rest ≡ leaf.rest / 32 → inner.at ≡ leaf.at → places_in_row f (set slots (i * 32 + leaf.rest % 32) new) i q ≡ places_in_row f slots i q ++ places_of leaf q
places_in_row-set {N} f slots old new leaf inner i q h was grown r a = ⊎_elim
    (λ (s : q % 32 ≡ leaf.rest % 32).
    let before : slice_get slots (i * 32 + q % 32) ≡ Some old = ap (λ d. slice_get slots (i * 32 + d)) s ∙ was in
    let after : slice_get (set slots (i * 32 + leaf.rest % 32) new) (i * 32 + q % 32) ≡ Some new = ap (λ d. slice_get (set slots (i * 32 + leaf.rest % 32) new) (i * 32 + d)) s ∙ slice_get-set_same slots new (i * 32 + leaf.rest % 32) h in
    ap (λ k. places_of_slot f k (q / 32)) after ∙ (grown (q / 32) ∙ (ap (λ ps. places_at f old (q / 32) ++ ps) (inner_places leaf inner q r a s) ∙ ap (λ k. places_of_slot f k (q / 32) ++ places_of leaf q) (sym before))))
    (λ (s : q % 32 ≢ leaf.rest % 32).
    ap (λ k. places_of_slot f k (q / 32)) (slice_get-set_other slots new (i * 32 + leaf.rest % 32) (i * 32 + q % 32) (λ e. s (omega arith))) ∙ (sym (append-nil (places_in_row f slots i q)) ∙ ap (λ ps. places_in_row f slots i q ++ ps) (sym (no_places leaf q s))))
    (cases_eq (q % 32) (leaf.rest % 32))

-- a row's slot that is as it was
pub places_in_row-same : {N : Type 0} (f : N → ℕ → List ℕ) (slots : List (Slot N)) (old new : Slot N) (d i q : ℕ) → i * 32 + d < length slots → slice_get slots (i * 32 + d) ≡ Some old → ((p : ℕ) → places_at f new p ≡ places_at f old p) → places_in_row f (set slots (i * 32 + d) new) i q ≡ places_in_row f slots i q
places_in_row-same {N} f slots old new d i q h was same = ⊎_elim
    (λ (s : q % 32 ≡ d).
    let before : slice_get slots (i * 32 + q % 32) ≡ Some old = ap (λ d. slice_get slots (i * 32 + d)) s ∙ was in
    let after : slice_get (set slots (i * 32 + d) new) (i * 32 + q % 32) ≡ Some new = ap (λ e. slice_get (set slots (i * 32 + d) new) (i * 32 + e)) s ∙ slice_get-set_same slots new (i * 32 + d) h in
    ap (λ k. places_of_slot f k (q / 32)) after ∙ (same (q / 32) ∙ ap (λ k. places_of_slot f k (q / 32)) (sym before)))
    (λ (s : q % 32 ≢ d). ap (λ k. places_of_slot f k (q / 32)) (slice_get-set_other slots new (i * 32 + d) (i * 32 + q % 32) (λ e. s (omega arith))))
    (cases_eq (q % 32) d)

-- another row is as it was
pub places_in_row-other : {N : Type 0} (f : N → ℕ → List ℕ) (slots : List (Slot N)) (new : Slot N) (d i j q : ℕ) → d < 32 → i ≢ j → places_in_row f (set slots (j * 32 + d) new) i q ≡ places_in_row f slots i q
places_in_row-other f slots new d i j q h ne = ap (λ k. places_of_slot f k (q / 32)) (slice_get-set_other slots new (j * 32 + d) (i * 32 + q % 32) (λ e. ne (omega arith)))

get_right : {X : Type 0} (xs ys : List X) (k j : ℕ) → k ≡ length xs + j → slice_get (xs ++ ys) k ≡ slice_get ys j
get_right [] ys k j e = ap (slice_get ys) (omega arith)
get_right (x ∷ xs) ys zero j e = absurd (omega arith)
get_right (x ∷ xs) ys (suc k) j e = get_right xs ys k j (omega arith)

-- a row after the others holds what its slots hold
last_row : {N : Type 0} (f : N → ℕ → List ℕ) (slots row : List (Slot N)) (i q : ℕ) → i * 32 ≡ length slots → places_in_row f (slots ++ row) i q ≡ below.places_in f row q
last_row f slots row i q e = ap (λ k. places_of_slot f k (q / 32)) (get_right slots row (i * 32 + q % 32) (q % 32) (omega arith))

-- what stands at the other digits with one more row
more_rows : {N : Type 0} (f : N → ℕ → List ℕ) (few : Option Few) (slots row : List (Slot N)) (n q : ℕ) → n * 32 ≤ length slots → places_by f few (slots ++ row) n q ≡ places_by f few slots n q
more_rows f few slots row zero q h = refl
more_rows f few slots row (suc i) q h = ap (λ k. places_of_slot f k (q / 32)) (slice_get-left slots row (i * 32 + q % 32) (omega arith))

other_number : {N : Type 0} (f : N → ℕ → List ℕ) (few : Option Few) (before after : List (Slot N)) (i n q : ℕ) → ((j p : ℕ) → j ≢ i → places_in_row f after j p ≡ places_in_row f before j p) → n ≢ suc i → places_by f few after n q ≡ places_by f few before n q
other_number f few before after i zero q others h = refl
other_number f few before after i (suc j) q others h = others j q (λ e. h (ap suc e))

-- a row with one more leaf
pub places_in-row : {N : Type 0} (f : N → ℕ → List ℕ) (index : List ℕ) (few : List Few) (before after : List (Slot N)) (leaf inner : Leaf) (rows i q : ℕ) → IsIndex index rows → get_or index (leaf.rest % 32) 0 ≡ suc i → ((p : ℕ) → places_in_row f after i p ≡ places_in_row f before i p ++ places_of inner p) → ((j p : ℕ) → j ≢ i → places_in_row f after j p ≡ places_in_row f before j p) → inner.rest ≡ leaf.rest / 32 → inner.at ≡ leaf.at → places_in f index few after q ≡ places_in f index few before q ++ places_of leaf q
places_in-row {N} f index few before after leaf inner rows i q is p grown others r a = ⊎_elim
    (λ (s : q % 32 ≡ leaf.rest % 32).
    let e : get_or index (q % 32) 0 ≡ suc i = ap (λ d. get_or index d 0) s ∙ p in
    ap (λ n. places_by f (slice_get few (q % 32)) after n (q / 32)) e ∙ (grown (q / 32) ∙ (ap (λ ps. places_in_row f before i (q / 32) ++ ps) (inner_places leaf inner q r a s) ∙ ap (λ n. places_by f (slice_get few (q % 32)) before n (q / 32) ++ places_of leaf q) (sym e))))
    (λ (s : q % 32 ≢ leaf.rest % 32).
    other_number f (slice_get few (q % 32)) before after i (get_or index (q % 32) 0) (q / 32) others (λ e. s (is.apart (q % 32) (leaf.rest % 32) (omega (arith, e)) (e ∙ sym p))) ∙ (sym (append-nil (places_in f index few before q)) ∙ ap (λ ps. places_in f index few before q ++ ps) (sym (no_places leaf q s))))
    (cases_eq (q % 32) (leaf.rest % 32))

-- rows that are as they were
pub places_in-rows : {N : Type 0} (f : N → ℕ → List ℕ) (index : List ℕ) (few : List Few) (before after : List (Slot N)) (i q : ℕ) → ((p : ℕ) → places_in_row f after i p ≡ places_in_row f before i p) → ((j p : ℕ) → j ≢ i → places_in_row f after j p ≡ places_in_row f before j p) → places_in f index few after q ≡ places_in f index few before q
places_in-rows {N} f index few before after i q same others = ⊎_elim
    (λ (e : get_or index (q % 32) 0 ≡ suc i). ap (λ n. places_by f (slice_get few (q % 32)) after n (q / 32)) e ∙ (same (q / 32) ∙ ap (λ n. places_by f (slice_get few (q % 32)) before n (q / 32)) (sym e)))
    (λ (s : get_or index (q % 32) 0 ≢ suc i). other_number f (slice_get few (q % 32)) before after i (get_or index (q % 32) 0) (q / 32) others s)
    (cases_eq (get_or index (q % 32) 0) (suc i))

-- one more of the few leaves at a digit that has no row
pub places_in-few : {N : Type 0} (f : N → ℕ → List ℕ) (index : List ℕ) (few : List Few) (slots : List (Slot N)) (old new : Few) (leaf inner : Leaf) (q : ℕ) → leaf.rest % 32 < length few → get_or index (leaf.rest % 32) 0 ≡ 0 → slice_get few (leaf.rest % 32) ≡ Some old → ((p : ℕ) → places_of_few new p ≡ places_of_few old p ++ places_of inner p) → inner.rest ≡ leaf.rest / 32 → inner.at ≡ leaf.at → places_in f index (set few (leaf.rest % 32) new) slots q ≡ places_in f index few slots q ++ places_of leaf q
places_in-few {N} f index few slots old new leaf inner q h z was grown r a = ⊎_elim
    (λ (s : q % 32 ≡ leaf.rest % 32).
    let e : get_or index (q % 32) 0 ≡ 0 = ap (λ d. get_or index d 0) s ∙ z in
    let before : slice_get few (q % 32) ≡ Some old = ap (λ d. slice_get few d) s ∙ was in
    let after : slice_get (set few (leaf.rest % 32) new) (q % 32) ≡ Some new = ap (λ d. slice_get (set few (leaf.rest % 32) new) d) s ∙ slice_get-set_same few new (leaf.rest % 32) h in
    ap (λ n. places_by f (slice_get (set few (leaf.rest % 32) new) (q % 32)) slots n (q / 32)) e ∙ (ap (λ k. places_of_some k (q / 32)) after ∙ (grown (q / 32) ∙ (ap (λ ps. places_of_few old (q / 32) ++ ps) (inner_places leaf inner q r a s) ∙ (ap (λ k. places_of_some k (q / 32) ++ places_of leaf q) (sym before) ∙ ap (λ n. places_by f (slice_get few (q % 32)) slots n (q / 32) ++ places_of leaf q) (sym e))))))
    (λ (s : q % 32 ≢ leaf.rest % 32).
    ap (λ k. places_by f k slots (get_or index (q % 32) 0) (q / 32)) (slice_get-set_other few new (leaf.rest % 32) (q % 32) s) ∙ (sym (append-nil (places_in f index few slots q)) ∙ ap (λ ps. places_in f index few slots q ++ ps) (sym (no_places leaf q s))))
    (cases_eq (q % 32) (leaf.rest % 32))

-- a first row for a digit: of its few leaves and one more
pub places_in-open : {N : Type 0} (f : N → ℕ → List ℕ) (index : List ℕ) (few : List Few) (slots row : List (Slot N)) (old : Few) (leaf inner : Leaf) (rows n q : ℕ) → IsIndex index rows → rows * 32 ≡ length slots → n ≡ suc rows → leaf.rest % 32 < length index → get_or index (leaf.rest % 32) 0 ≡ 0 → slice_get few (leaf.rest % 32) ≡ Some old → ((p : ℕ) → below.places_in f row p ≡ places_of_few old p ++ places_of inner p) → inner.rest ≡ leaf.rest / 32 → inner.at ≡ leaf.at → places_in f (set index (leaf.rest % 32) n) few (slots ++ row) q ≡ places_in f index few slots q ++ places_of leaf q
places_in-open {N} f index few slots row old leaf inner rows n q is whole number h z was grown r a = ⊎_elim
    (λ (s : (q % 32 ≡ leaf.rest % 32) × (get_or (set index (leaf.rest % 32) n) (q % 32) 0 ≡ n)).
    let e : get_or index (q % 32) 0 ≡ 0 = ap (λ d. get_or index d 0) s.0 ∙ z in
    let before : slice_get few (q % 32) ≡ Some old = ap (λ d. slice_get few d) s.0 ∙ was in
    ap (λ m. places_by f (slice_get few (q % 32)) (slots ++ row) m (q / 32)) (s.1 ∙ number) ∙ (last_row f slots row rows (q / 32) whole ∙ (grown (q / 32) ∙ (ap (λ ps. places_of_few old (q / 32) ++ ps) (inner_places leaf inner q r a s.0) ∙ (ap (λ k. places_of_some k (q / 32) ++ places_of leaf q) (sym before) ∙ ap (λ m. places_by f (slice_get few (q % 32)) slots m (q / 32) ++ places_of leaf q) (sym e))))))
    (λ (s : (q % 32 ≢ leaf.rest % 32) × (get_or (set index (leaf.rest % 32) n) (q % 32) 0 ≡ get_or index (q % 32) 0)).
    ap (λ m. places_by f (slice_get few (q % 32)) (slots ++ row) m (q / 32)) s.1 ∙ (more_rows f (slice_get few (q % 32)) slots row (get_or index (q % 32) 0) (q / 32) (omega (arith, is.within (q % 32))) ∙ (sym (append-nil (places_in f index few slots q)) ∙ ap (λ ps. places_in f index few slots q ++ ps) (sym (no_places leaf q s.0)))))
    (index_after index (leaf.rest % 32) n h (q % 32))

-- a write of what is there
pub set_same : {X : Type 0} (xs : List X) (x : X) (i : ℕ) → slice_get xs i ≡ Some x → set xs i x ≡ xs
set_same [] x i e = refl
set_same (y ∷ xs) x zero e = let same : y ≡ x = cc in ap (λ z. z ∷ xs) (sym same)
set_same (y ∷ xs) x (suc i) e = ap (λ ys. y ∷ ys) (set_same xs x i e)

nothing_few : (n : ℕ) (free : Few) (d q : ℕ) → ((p : ℕ) → places_of_few free p ≡ []) → places_of_some (slice_get (replicate n free) d) q ≡ []
nothing_few zero free d q h = refl
nothing_few (suc n) free zero q h = h q
nothing_few (suc n) free (suc d) q h = nothing_few n free d q h

-- without rows and leaves nothing stands there
pub places_in-free : {N : Type 0} (f : N → ℕ → List ℕ) (free : Few) (slots : List (Slot N)) (q : ℕ) → ((p : ℕ) → places_of_few free p ≡ []) → places_in f (replicate 32 0) (replicate 32 free) slots q ≡ []
places_in-free f free slots q h = ap (λ n. places_by f (slice_get (replicate 32 free) (q % 32)) slots n (q / 32)) (nothing_at (q % 32)) ∙ nothing_few 32 free (q % 32) (q / 32) h

-- what holds anyway holds after an error
pub at_err : {T E P : Type 0} (r : Result T E) → P → OnErr r P
at_err (Ok x) p = tt
at_err (Err e) p = p
