-- Lemmas on the places that an index keeps.
use Rattle.std.proofs.Common.{◌≡◌, ◌≢◌, ℕ, zero, suc, ◌+◌, ◌<◌, Bool, true, false, true≢false, cond, ◌||◌, ◌&&◌, List, [], ◌∷◌, ◌++◌, length, set, refl, ap, sym, ◌∙◌, arith, eq-eqb}
use Rattle.std.specs.Prelude.{Option, Some, None, IfSome, IfNone, ◌==◌, slice_get}
use Rattle.std.proofs.lemmas.Bool.Decides.{nat_tests}
use Rattle.par_index.specs.declared.index.Leaf.{Leaf}
use Rattle.par_index.specs.Places.{is_among, places_of, first_such}

pub or_assoc : (a b c : Bool) → (a || (b || c)) ≡ ((a || b) || c)
or_assoc true b c = refl
or_assoc false b c = refl

pub or_comm : (a b : Bool) → (a || b) ≡ (b || a)
or_comm true true = refl
or_comm true false = refl
or_comm false true = refl
or_comm false false = refl

pub or_false : (b : Bool) → (b || false) ≡ b
or_false true = refl
or_false false = refl

pub or_true : (b : Bool) → (b || true) ≡ true
or_true true = refl
or_true false = refl

pub is_among-append : (a : ℕ) (xs ys : List ℕ) → is_among a (xs ++ ys) ≡ (is_among a xs || is_among a ys)
is_among-append a [] ys = refl
is_among-append a (x ∷ xs) ys = ap (λ b. (x == a) || b) (is_among-append a xs ys) ∙ or_assoc (x == a) (is_among a xs) (is_among a ys)

among_cond : (b : Bool) (at a : ℕ) → is_among a (cond b (at ∷ []) []) ≡ (b && (at == a))
among_cond true at a = or_false (at == a)
among_cond false at a = refl

-- a leaf has its own place under its own hash
pub is_among-places_of : (leaf : Leaf) (q a : ℕ) → is_among a (places_of leaf q) ≡ ((leaf.rest == q) && (leaf.at == a))
is_among-places_of leaf q a = among_cond (leaf.rest == q) leaf.at a

first_such-yes : (w : ℕ → Bool) (ns : List ℕ) (i : ℕ) → first_such w ns ≡ Some i → w i ≡ true
first_such-yes w [] i e = cc
first_such-yes w (n ∷ ns) i e = grind (arith, first_such-yes w ns i)

pub first_such-found : (w : ℕ → Bool) (ns : List ℕ) (r : Option ℕ) → r ≡ first_such w ns → IfSome r (λ at. w at ≡ true)
first_such-found w ns None e = tt
first_such-found w ns (Some i) e = first_such-yes w ns i (sym e)

pub first_such-no : (w : ℕ → Bool) (ns : List ℕ) → first_such w ns ≡ None → (i : ℕ) → is_among i ns ≡ true → w i ≡ false
first_such-no w [] e i h = absurd (true≢false (sym h))
first_such-no w (n ∷ ns) e i h = grind (arith, nat_tests, first_such-no w ns)

pub first_such-absent : (w : ℕ → Bool) (ns : List ℕ) (r : Option ℕ) → r ≡ first_such w ns → IfNone r ((i : ℕ) → is_among i ns ≡ true → w i ≡ false)
first_such-absent w ns None e = first_such-no w ns (sym e)
first_such-absent w ns (Some i) e = tt

pub first_such-append : (w : ℕ → Bool) (xs ys : List ℕ) → first_such w xs ≡ None → first_such w (xs ++ ys) ≡ first_such w ys
first_such-append w [] ys e = refl
first_such-append w (x ∷ xs) ys e = grind (arith, first_such-append w xs ys)

module _ {X : Type 0} where
  pub slice_get-left : (xs ys : List X) (i : ℕ) → i < length xs → slice_get (xs ++ ys) i ≡ slice_get xs i
  slice_get-left [] ys i h = absurd (omega arith)
  slice_get-left (x ∷ xs) ys zero h = refl
  slice_get-left (x ∷ xs) ys (suc i) h = slice_get-left xs ys i (omega arith)

  pub slice_get-append : (xs : List X) (x : X) (i : ℕ) → i < length xs → slice_get (xs ++ x ∷ []) i ≡ slice_get xs i
  slice_get-append [] x i h = absurd (omega arith)
  slice_get-append (y ∷ xs) x zero h = refl
  slice_get-append (y ∷ xs) x (suc i) h = slice_get-append xs x i (omega arith)

  pub slice_get-last : (xs : List X) (x : X) → slice_get (xs ++ x ∷ []) (length xs) ≡ Some x
  slice_get-last [] x = refl
  slice_get-last (y ∷ xs) x = slice_get-last xs x

  pub slice_get-middle : (xs : List X) (x : X) (ys : List X) → slice_get (xs ++ x ∷ ys) (length xs) ≡ Some x
  slice_get-middle [] x ys = refl
  slice_get-middle (y ∷ xs) x ys = slice_get-middle xs x ys

  pub slice_get-set_same : (xs : List X) (x : X) (i : ℕ) → i < length xs → slice_get (set xs i x) i ≡ Some x
  slice_get-set_same [] x i h = absurd (omega arith)
  slice_get-set_same (y ∷ xs) x zero h = refl
  slice_get-set_same (y ∷ xs) x (suc i) h = slice_get-set_same xs x i (omega arith)

  pub slice_get-set_other : (xs : List X) (x : X) (i j : ℕ) → j ≢ i → slice_get (set xs i x) j ≡ slice_get xs j
  slice_get-set_other [] x i j h = refl
  slice_get-set_other (y ∷ xs) x zero zero h = absurd (h refl)
  slice_get-set_other (y ∷ xs) x zero (suc j) h = refl
  slice_get-set_other (y ∷ xs) x (suc i) zero h = refl
  slice_get-set_other (y ∷ xs) x (suc i) (suc j) h = slice_get-set_other xs x i j (λ e. h (ap suc e))
