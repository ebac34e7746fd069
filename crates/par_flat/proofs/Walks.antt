-- Lemmas on a walk over slots.
use Rattle.std.proofs.Common.{◌≡◌, ◌≢◌, ℕ, zero, suc, ◌+◌, ◌-◌, ◌<◌, ◌≤◌, Bool, true, false, true≢false, cond, ◌&&◌, ◌||◌, List, [], ◌∷◌, ◌++◌, length, take, drop, get_or, set, refl, ap, sym, ◌∙◌, subst, append_assoc, take-append-drop, take_all, length-drop, append-nil, arith, ◌⊎◌, ⊎_elim, inl, inr}
use Rattle.std.specs.Prelude.{Option, Some, None, ◌==◌, slice_get}
use Rattle.std.proofs.lemmas.Bool.Decides.{nat_tests}
use Rattle.par_index.specs.declared.index.Leaf.{Leaf}
use Rattle.par_index.specs.Places.{places_of, first_such}
use Rattle.par_index.proofs.Places.{first_such-append, first_such-no}
use Rattle.par_flat.specs.declared.slots.Slot.{Slot}
use Rattle.par_flat.specs.declared.slots.Slot.TheVariants.{Free, Taken}
use Rattle.par_flat.specs.declared.slots.Looked.{Looked}
use Rattle.par_flat.specs.declared.slots.Looked.TheVariants.{Found, Gap, End}
use Rattle.par_flat.specs.Slots.{looked, leaves_of, is_in, turned, IsClear, first_free}

pub nothing_left : (xs ys : List ℕ) → xs ++ ys ≡ [] → (xs ≡ []) × (ys ≡ [])
nothing_left [] ys e = (refl, e)
nothing_left (x ∷ xs) ys e = cc

pub leaves_of-append : (xs ys : List Slot) (q : ℕ) → leaves_of (xs ++ ys) q ≡ leaves_of xs q ++ leaves_of ys q
leaves_of-append [] ys q = refl
leaves_of-append (Free ∷ xs) ys q = leaves_of-append xs ys q
leaves_of-append (Taken l ∷ xs) ys q = ap (λ ps. places_of l q ++ ps) (leaves_of-append xs ys q) ∙ sym (append_assoc (places_of l q) (leaves_of xs q) (leaves_of ys q))

past : (b c : Bool) (at : ℕ) (x r : Looked) → cond (b && c) (Found at) x ≡ r → r ≢ Found at → (x ≡ r) × ((b && c) ≡ false)
past true true at x r e n = absurd (n (sym e))
past true false at x r e n = (e, refl)
past false c at x r e n = (e, refl)

skip : (w : ℕ → Bool) (at : ℕ) (ps : List ℕ) (b : Bool) → (b && w at) ≡ false → first_such w (cond b (at ∷ []) [] ++ ps) ≡ first_such w ps
skip w at ps true h = rw h refl
skip w at ps false h = refl

passed : (b c : Bool) (at found : ℕ) (x : Looked) → cond (b && c) (Found at) x ≡ Found found → ((c ≡ true) × (found ≡ at)) ⊎ (x ≡ Found found)
passed true true at found x e = inl (refl, cc)
passed true false at found x e = inr e
passed false c at found x e = inr e

pub looked-found : (w : ℕ → Bool) (q : ℕ) (xs : List Slot) (at : ℕ) → looked w q xs ≡ Found at → w at ≡ true
looked-found w q [] at e = cc
looked-found w q (Free ∷ xs) at e = cc
looked-found w q (Taken l ∷ xs) at e = ⊎_elim (λ (h : (w l.at ≡ true) × (at ≡ l.at)). ap w h.1 ∙ h.0) (λ (h : looked w q xs ≡ Found at). looked-found w q xs at h) (passed (l.rest == q) (w l.at) l.at at (looked w q xs) e)

pub looked-end : (w : ℕ → Bool) (q : ℕ) (xs : List Slot) → looked w q xs ≡ End → first_such w (leaves_of xs q) ≡ None
looked-end w q [] e = refl
looked-end w q (Free ∷ xs) e = cc
looked-end w q (Taken l ∷ xs) e =
    let h : (looked w q xs ≡ End) × (((l.rest == q) && w l.at) ≡ false) = past (l.rest == q) (w l.at) l.at (looked w q xs) End e (λ f. cc) in
    skip w l.at (leaves_of xs q) (l.rest == q) h.1 ∙ looked-end w q xs h.0

pub clear-end : (w : ℕ → Bool) (q : ℕ) (xs ys : List Slot) → looked w q xs ≡ End → IsClear q (xs ++ ys) → IsClear q ys
clear-end w q [] ys e c = c
clear-end w q (Free ∷ xs) ys e c = cc
clear-end w q (Taken l ∷ xs) ys e c = clear-end w q xs ys (past (l.rest == q) (w l.at) l.at (looked w q xs) End e (λ f. cc)).0 c

pub looked-gap : (w : ℕ → Bool) (q : ℕ) (xs ys : List Slot) → looked w q xs ≡ Gap → IsClear q (xs ++ ys) → (first_such w (leaves_of xs q) ≡ None) × (leaves_of ys q ≡ [])
looked-gap w q [] ys e c = cc
looked-gap w q (Free ∷ xs) ys e c = let h = nothing_left (leaves_of xs q) (leaves_of ys q) (sym (leaves_of-append xs ys q) ∙ c) in (ap (first_such w) h.0, h.1)
looked-gap w q (Taken l ∷ xs) ys e c =
    let h : (looked w q xs ≡ Gap) × (((l.rest == q) && w l.at) ≡ false) = past (l.rest == q) (w l.at) l.at (looked w q xs) Gap e (λ f. cc) in
    let more = looked-gap w q xs ys h.0 c in
    (skip w l.at (leaves_of xs q) (l.rest == q) h.1 ∙ more.0, more.1)

pub leaves_in_two : (h : ℕ) (slots : List Slot) (q : ℕ) → leaves_of slots q ≡ leaves_of (take h slots) q ++ leaves_of (drop h slots) q
leaves_in_two h slots q = ap (λ xs. leaves_of xs q) (sym (take-append-drop h slots)) ∙ leaves_of-append (take h slots) (drop h slots) q

-- a walk that comes to a free slot before the end
pub absent-gap : (w : ℕ → Bool) (q h : ℕ) (slots : List Slot) → IsClear q (turned h slots) → looked w q (drop h slots) ≡ Gap → first_such w (leaves_of slots q) ≡ None
absent-gap w q h slots c e =
    let g = looked-gap w q (drop h slots) (take h slots) e c in
    ap (first_such w) (leaves_in_two h slots q ∙ ap (λ ps. ps ++ leaves_of (drop h slots) q) g.1) ∙ g.0

-- a walk that goes round the end
pub absent-round : (w : ℕ → Bool) (q h : ℕ) (slots : List Slot) → looked w q (drop h slots) ≡ End → first_such w (leaves_of (take h slots) q) ≡ None → first_such w (leaves_of slots q) ≡ None
absent-round w q h slots e n = ap (first_such w) (leaves_in_two h slots q) ∙ (first_such-append w (leaves_of (take h slots) q) (leaves_of (drop h slots) q) n ∙ looked-end w q (drop h slots) e)

pub absent-later : (w : ℕ → Bool) (q h : ℕ) (slots : List Slot) → IsClear q (turned h slots) → looked w q (drop h slots) ≡ End → looked w q (take h slots) ≡ Gap → first_such w (leaves_of slots q) ≡ None
absent-later w q h slots c e g = absent-round w q h slots e (looked-gap w q (take h slots) [] g (subst (IsClear q) (sym (append-nil (take h slots))) (clear-end w q (drop h slots) (take h slots) e c))).0

-- the slice from the home on
pub back_is : (h : ℕ) (slots : List Slot) → take (length slots - h) (drop h slots) ≡ drop h slots
back_is h slots = take_all (length slots - h) (drop h slots) (omega (arith, length-drop h slots))

-- what a walk did not find is not there
pub absent_all : (w : ℕ → Bool) (q : ℕ) (slots : List Slot) → first_such w (leaves_of slots q) ≡ None → (at : ℕ) → is_in slots q at ≡ true → w at ≡ false
absent_all w q slots e at h = first_such-no w (leaves_of slots q) e at h
