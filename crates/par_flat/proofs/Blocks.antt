-- Lemmas on the slots of a block.
use Rattle.std.proofs.Common.{◌≡◌, ◌≢◌, ℕ, zero, suc, ◌+◌, ◌-◌, ◌<◌, ◌≤◌, Bool, true, false, ◌||◌, ◌&&◌, List, [], ◌∷◌, ◌++◌, length, take, drop, set, replicate, refl, ap, sym, ◌∙◌, subst, arith, append-nil, length-drop, length-append, ◌⊎◌, ⊎_elim, inl, inr}
use Rattle.std.specs.Prelude.{Option, Some, None, ◌==◌, slice_get}
use Rattle.std.proofs.lemmas.Bool.Decides.{nat_tests}
use Rattle.std.proofs.lemmas.Bool.{cases_eq}
use Rattle.std.proofs.lemmas.List.{length-replicate, length-set, drop-append-le, take-append-le, take-append-drop}
use Rattle.par_index.specs.declared.index.Leaf.{Leaf}
use Rattle.par_index.specs.Places.{places_of, is_among, first_such}
use Rattle.par_index.proofs.Places.{is_among-append, is_among-places_of}
use Rattle.par_flat.specs.declared.slots.Slot.{Slot}
use Rattle.par_flat.specs.declared.slots.Slot.TheVariants.{Free, Taken}
use Rattle.par_flat.specs.declared.slots.Looked.TheVariants.{Gap, End}
use Rattle.par_flat.specs.Slots.{looked, leaves_of, is_in, taken, IsClear, first_free}
use Rattle.par_flat.specs.Blocks.{home_in, IsWalked, IsBlock}
use Rattle.par_flat.proofs.Walks.{leaves_of-append, leaves_in_two, looked-gap, looked-end, absent_all, nothing_left}
use Rattle.par_flat.proofs.Puts.{clear-none, clear-first, clear-other, leaves-other, drop-set_before, drop-set_past, take-set_before, take-set_past, slice_get-take, slice_get-drop, late_is_free, first_free-le, taken-append, taken-free, no_leaves}

cases_le : (a b : ℕ) → (a ≤ b) ⊎ (b < a)
cases_le zero b = inl (omega arith)
cases_le (suc a) zero = inr (omega arith)
cases_le (suc a) (suc b) = ⊎_elim (λ (h : a ≤ b). inl (omega arith)) (λ (h : b < a). inr (omega arith)) (cases_le a b)

no_places : (leaf : Leaf) (q : ℕ) → q ≢ leaf.rest → leaves_of (Taken leaf ∷ []) q ≡ []
no_places leaf q n = grind (arith, nat_tests)

-- more slots, where none of the first is free
clear-full : (xs ys : List Slot) (q : ℕ) → first_free xs ≡ length xs → IsClear q ys → IsClear q (xs ++ ys)
clear-full [] ys q f c = c
clear-full (Free ∷ xs) ys q f c = absurd (omega arith)
clear-full (Taken l ∷ xs) ys q f c = clear-full xs ys q (omega arith) c

-- more slots, with nothing of this hash
clear-more : (xs ys : List Slot) (q : ℕ) → leaves_of ys q ≡ [] → IsClear q xs → IsClear q (xs ++ ys)
clear-more [] ys q e c = clear-none ys q e
clear-more (Free ∷ xs) ys q e c = leaves_of-append xs ys q ∙ (ap (λ ps. ps ++ leaves_of ys q) c ∙ e)
clear-more (Taken l ∷ xs) ys q e c = clear-more xs ys q e c

module _ (slots : List Slot) (leaf : Leaf) (h gap : ℕ) (g : gap ≡ first_free (drop h slots)) where
  walked-here : h + gap < length slots → IsWalked leaf.rest h slots → IsWalked leaf.rest h (set slots (h + gap) (Taken leaf))
  walked-here within w = record {
    before = ap (λ xs. leaves_of xs leaf.rest) (take-set_past slots (h + gap) h (Taken leaf) (omega arith)) ∙ w.before;
    clear = subst (IsClear leaf.rest) (sym (drop-set_past slots (h + gap) gap h (Taken leaf) refl)) (clear-first (drop h slots) gap leaf leaf.rest (sym g) w.clear);
  }

  walked-there : (q home : ℕ) → q ≢ leaf.rest → h + gap < length slots → IsWalked q home slots → IsWalked q home (set slots (h + gap) (Taken leaf))
  walked-there q home n within w =
      let free : slice_get slots (h + gap) ≡ Some Free = late_is_free h gap slots g within in
      ⊎_elim
      (λ (p : home ≤ h + gap).
      let e : h + gap ≡ home + (h + gap - home) = omega arith in
      record {
        before = ap (λ xs. leaves_of xs q) (take-set_past slots (h + gap) home (Taken leaf) p) ∙ w.before;
        clear = subst (IsClear q) (sym (drop-set_past slots (h + gap) (h + gap - home) home (Taken leaf) e)) (clear-other (drop home slots) (h + gap - home) leaf q (slice_get-drop slots (h + gap) (h + gap - home) home e ∙ free) n w.clear);
      })
      (λ (p : h + gap < home). record {
        before = ap (λ xs. leaves_of xs q) (take-set_before slots (h + gap) home (Taken leaf)) ∙ (leaves-other (take home slots) (h + gap) leaf q (slice_get-take slots (h + gap) home p ∙ free) n ∙ w.before);
        clear = subst (IsClear q) (sym (drop-set_before slots (h + gap) home (Taken leaf) p)) w.clear;
      })
      (cases_le home (h + gap))

  walked-past : h ≤ length slots → length slots ≤ h + gap → IsWalked leaf.rest h slots → IsWalked leaf.rest h (slots ++ Taken leaf ∷ [])
  walked-past room full w = record {
    before = ap (λ xs. leaves_of xs leaf.rest) (take-append-le h slots (Taken leaf ∷ []) room) ∙ w.before;
    clear = subst (IsClear leaf.rest) (sym (drop-append-le h slots (Taken leaf ∷ []) room)) (clear-full (drop h slots) (Taken leaf ∷ []) leaf.rest (omega (arith, g, first_free-le (drop h slots), length-drop h slots)) tt);
  }

walked-more : (slots : List Slot) (leaf : Leaf) (q home : ℕ) → q ≢ leaf.rest → home ≤ length slots → IsWalked q home slots → IsWalked q home (slots ++ Taken leaf ∷ [])
walked-more slots leaf q home n room w = record {
  before = ap (λ xs. leaves_of xs q) (take-append-le home slots (Taken leaf ∷ []) room) ∙ w.before;
  clear = subst (IsClear q) (sym (drop-append-le home slots (Taken leaf ∷ []) room)) (clear-more (drop home slots) (Taken leaf ∷ []) q (no_places leaf q n) w.clear);
}

module _ (shift size : ℕ) (slots : List Slot) (leaf : Leaf) (gap : ℕ) (is : IsBlock shift size slots) (within : (q : ℕ) → home_in shift size q < size) (g : gap ≡ first_free (drop (home_in shift size leaf.rest) slots)) where
  -- the leaf in the first free slot from its home on
  pub block-set : home_in shift size leaf.rest + gap < length slots → IsBlock shift size (set slots (home_in shift size leaf.rest + gap) (Taken leaf))
  block-set room = record {
    shifts = is.shifts;
    some = is.some;
    whole = rw length-set is.whole;
    walked = λ q. ⊎_elim
        (λ (s : q ≡ leaf.rest). subst (λ p. IsWalked p (home_in shift size p) (set slots (home_in shift size leaf.rest + gap) (Taken leaf))) (sym s) (walked-here slots leaf (home_in shift size leaf.rest) gap g room (is.walked leaf.rest)))
        (λ (n : q ≢ leaf.rest). walked-there slots leaf (home_in shift size leaf.rest) gap g q (home_in shift size q) n room (is.walked q))
        (cases_eq q leaf.rest);
  }

  -- the leaf past the end, where no slot from its home on is free
  pub block-push : length slots ≤ home_in shift size leaf.rest + gap → IsBlock shift size (slots ++ Taken leaf ∷ [])
  block-push full = record {
    shifts = is.shifts;
    some = is.some;
    whole = omega (arith, is.whole, length-append slots (Taken leaf ∷ []));
    walked = λ q. ⊎_elim
        (λ (s : q ≡ leaf.rest). subst (λ p. IsWalked p (home_in shift size p) (slots ++ Taken leaf ∷ [])) (sym s) (walked-past slots leaf (home_in shift size leaf.rest) gap g (omega (arith, is.whole, within leaf.rest)) full (is.walked leaf.rest)))
        (λ (n : q ≢ leaf.rest). walked-more slots leaf q (home_in shift size q) n (omega (arith, is.whole, within q)) (is.walked q))
        (cases_eq q leaf.rest);
  }

pub is_in-push : (xs : List Slot) (leaf : Leaf) (q a : ℕ) → is_in (xs ++ Taken leaf ∷ []) q a ≡ (is_in xs q a || ((leaf.rest == q) && (leaf.at == a)))
is_in-push xs leaf q a =
    ap (is_among a) (leaves_of-append xs (Taken leaf ∷ []) q)
    ∙ (is_among-append a (leaves_of xs q) (places_of leaf q ++ [])
    ∙ ap (λ b. is_in xs q a || b) (ap (is_among a) (append-nil (places_of leaf q)) ∙ is_among-places_of leaf q a))

pub taken-push : (xs : List Slot) (leaf : Leaf) → taken (xs ++ Taken leaf ∷ []) ≡ taken xs + 1
taken-push xs leaf = taken-append xs (Taken leaf ∷ [])

block-absent : (w : ℕ → Bool) (q home : ℕ) (slots : List Slot) → IsWalked q home slots → first_such w (leaves_of (drop home slots) q) ≡ None → (at : ℕ) → is_in slots q at ≡ true → w at ≡ false
block-absent w q home slots is none =
    absent_all w q slots (ap (first_such w) (leaves_in_two home slots q ∙ ap (λ ps. ps ++ leaves_of (drop home slots) q) is.before) ∙ none)

-- a walk that came to a free slot, and one that came to the end
pub block-gap : (w : ℕ → Bool) (q home : ℕ) (slots : List Slot) → IsWalked q home slots → looked w q (drop home slots) ≡ Gap → (at : ℕ) → is_in slots q at ≡ true → w at ≡ false
block-gap w q home slots is e = block-absent w q home slots is (looked-gap w q (drop home slots) [] e (subst (IsClear q) (sym (append-nil (drop home slots))) is.clear)).0

pub block-end : (w : ℕ → Bool) (q home : ℕ) (slots : List Slot) → IsWalked q home slots → looked w q (drop home slots) ≡ End → (at : ℕ) → is_in slots q at ≡ true → w at ≡ false
block-end w q home slots is e = block-absent w q home slots is (looked-end w q (drop home slots) e)

pub block-free : (shift size : ℕ) → shift < 32 → 0 < size → IsBlock shift size (replicate size Free)
block-free shift size s p = record {
  shifts = s;
  some = p;
  whole = omega (arith, length-replicate size Free);
  walked = λ q. let two = nothing_left (leaves_of (take (home_in shift size q) (replicate size Free)) q) (leaves_of (drop (home_in shift size q) (replicate size Free)) q) (sym (leaves_in_two (home_in shift size q) (replicate size Free) q) ∙ no_leaves size q) in
      record {
        before = two.0;
        clear = clear-none (drop (home_in shift size q) (replicate size Free)) q two.1;
      };
}
