-- Runs of bytes, and what a token's first byte tells.
use Rattle.std.proofs.Common.{◌≡◌, ◌≤◌, ◌∷◌, ◌++◌, ◌∙◌, ◌==◌, ◌&&◌, ◌+◌, cond, refl, ap, inl, inr, ℕ, suc, List, [], length, take, drop, Option, Some, None, arith, Bool, true, false, eqb→eq}
use Rattle.std.specs.List.{list_all, prefix_len}
use Rattle.std.proofs.lemmas.Bool.{cases_Bool}
use Rattle.std.specs.Prelude.{not}
use Rattle.pipe_text.specs.Token.{holds_at, is_body, is_digit, is_letter, step}
use Rattle.pipe_text.specs.Reading.{at_state, behind, body_at, onto, run}

pub some_inj : {A : Type 0} (x y : A) → Some x ≡ Some y → x ≡ y
some_inj x y h = cc h

pub cons_inj : (c d : ℕ) (xs ys : List ℕ) → c ∷ xs ≡ d ∷ ys → (c ≡ d) × (xs ≡ ys)
cons_inj c d xs ys h = (cc h, cc h)

pub and_true : (a b : Bool) → (a && b) ≡ true → (a ≡ true) × (b ≡ true)
and_true true b h = (refl, h)
and_true false b h = cc h

-- ---- runs

pub run_good : (p : ℕ → Bool) (xs : List ℕ) → list_all p (run p xs) ≡ true
run_good p [] = refl
run_good p (x ∷ xs) = elim (cases_Bool (p x)) [
  | inl e ↦ rw (e, e, run_good p xs) refl
  | inr e ↦ rw e refl
]

pub run_splits : (p : ℕ → Bool) (xs : List ℕ) → xs ≡ run p xs ++ behind p xs
run_splits p [] = refl
run_splits p (x ∷ xs) = elim (cases_Bool (p x)) [
  | inl e ↦ rw e (ap (λ (t : List ℕ). x ∷ t) (run_splits p xs))
  | inr e ↦ rw e refl
]

pub run_most : (p : ℕ → Bool) (xs w more : List ℕ) → list_all p w ≡ true → xs ≡ w ++ more → length w ≤ length (run p xs)
run_most p xs [] more a e = omega arith
run_most p [] (c ∷ w) more a e = cc e
run_most p (x ∷ xs) (c ∷ w) more a e =
    let h = cons_inj x c xs (w ++ more) e in
    let b = and_true (p c) (list_all p w) a in
    let ih = run_most p xs w more b.1 h.1 in
    let px : p x ≡ true = ap p h.0 ∙ b.0 in
    rw px (omega (arith, ih))

-- a run ends where a byte does not pass
pub run_until : (p : ℕ → Bool) (w : List ℕ) (d : ℕ) (more : List ℕ) → list_all p w ≡ true → p d ≡ false → (run p (w ++ d ∷ more) ≡ w) × (behind p (w ++ d ∷ more) ≡ d ∷ more)
run_until p [] d more a e = (rw e refl, rw e refl)
run_until p (c ∷ w) d more a e =
    let b = and_true (p c) (list_all p w) a in
    let ih = run_until p w d more b.1 e in
    (rw b.0 (ap (λ (t : List ℕ). c ∷ t) ih.0), rw b.0 ih.1)

pub take_run : (p : ℕ → Bool) (xs : List ℕ) → take (prefix_len p xs) xs ≡ run p xs
take_run p [] = refl
take_run p (x ∷ xs) = elim (cases_Bool (p x)) [
  | inl e ↦ let z : 1 + prefix_len p xs ≡ suc (prefix_len p xs) = omega arith in rw (e, z) (ap (λ (t : List ℕ). x ∷ t) (take_run p xs))
  | inr e ↦ rw e refl
]

pub take_run_more : (p : ℕ → Bool) (c : ℕ) (rest : List ℕ) → take (prefix_len p rest + 1) (c ∷ rest) ≡ c ∷ run p rest
take_run_more p c rest = let z : prefix_len p rest + 1 ≡ suc (prefix_len p rest) = omega arith in rw z (ap (λ (x : List ℕ). c ∷ x) (take_run p rest))

pub drop_run : (p : ℕ → Bool) (xs : List ℕ) → drop (prefix_len p xs) xs ≡ behind p xs
drop_run p [] = refl
drop_run p (x ∷ xs) = elim (cases_Bool (p x)) [
  | inl e ↦ let z : 1 + prefix_len p xs ≡ suc (prefix_len p xs) = omega arith in rw (e, z) (drop_run p xs)
  | inr e ↦ rw e refl
]

-- ---- the inside of a text

some_state : (o : Option Bool) (f : Bool → Bool) → holds_at o f ≡ true → (b : Bool) × (o ≡ Some b) × (f b ≡ true)
some_state None f h = cc h
some_state (Some b) f h = (b, refl, h)

-- the closing mark may not stand inside
inside : (e : Bool) (c : ℕ) (f : Bool) → step e c ≡ Some f → (not e && (c == 34)) ≡ false
inside true c f h = refl
inside false c f h = elim (cases_Bool (c == 34)) [
  | inl q ↦ let is : c ≡ 34 = eqb→eq c 34 (rw q tt) in let bad = rw is at h in cc bad
  | inr q ↦ q
]

pub body_back : (e : Bool) (b more : List ℕ) → is_body e b ≡ true → body_at e (b ++ 34 ∷ more) ≡ Some b
body_back true [] more h = cc h
body_back false [] more h = refl
body_back e (c ∷ b) more h =
    let (f, goes, good) = some_state (step e c) (λ x. is_body x b) h in
    rw (inside e c f goes, goes, body_back f b more good) refl

onto_is : (c : ℕ) (o : Option (List ℕ)) (b : List ℕ) → onto c o ≡ Some b → (d : List ℕ) × (o ≡ Some d) × (c ∷ d ≡ b)
onto_is c None b h = cc h
onto_is c (Some d) b h = (d, refl, some_inj _ _ h)

at_state_is : (o : Option Bool) (f : Bool → Option (List ℕ)) (b : List ℕ) → at_state o f ≡ Some b → (e : Bool) × (o ≡ Some e) × (f e ≡ Some b)
at_state_is None f b h = cc h
at_state_is (Some e) f b h = (e, refl, h)

pub else_is : {A : Type 0} (b : Bool) (x y z : A) → b ≡ false → cond b x y ≡ z → y ≡ z
else_is true x y z e h = cc e
else_is false x y z e h = h

pub then_is : {A : Type 0} (b : Bool) (x y z : A) → b ≡ true → cond b x y ≡ z → x ≡ z
then_is true x y z e h = h
then_is false x y z e h = cc e

-- a text that is found
pub record Bodied (e : Bool) (xs b : List ℕ) : Type 0 where
  pub good : is_body e b ≡ true
  pub more : List ℕ
  pub splits : xs ≡ b ++ 34 ∷ more

goes_on : (e : Bool) (c : ℕ) (f : Bool) (d : List ℕ) → step e c ≡ Some f → is_body f d ≡ true → is_body e (c ∷ d) ≡ true
goes_on e c f d s g = rw s g

pub body_found : (e : Bool) (xs b : List ℕ) → body_at e xs ≡ Some b → Bodied e xs b
body_found e [] b h = cc h
body_found e (c ∷ xs) b h = elim (cases_Bool (not e && (c == 34))) [
  | inl q ↦
      let both = and_true (not e) (c == 34) q in
      let empty : [] ≡ b = some_inj _ _ (then_is _ _ _ _ q h) in
      let is : c ≡ 34 = eqb→eq c 34 (rw both.1 tt) in
      rw (← empty) (record { good = both.0; more = xs; splits = ap (λ (x : ℕ). x ∷ xs) is })
  | inr q ↦
      let (f, goes, rest) = at_state_is (step e c) (λ x. onto c (body_at x xs)) b (else_is _ _ _ _ q h) in
      let (d, found, whole) = onto_is c (body_at f xs) b rest in
      let ih = body_found f xs d found in
      rw (← whole) (record { good = goes_on e c f d goes ih.good; more = ih.more; splits = ap (λ (t : List ℕ). c ∷ t) ih.splits })
]

-- ---- kinds of first bytes

pub data Kind : Type 0 where
  Letter : Kind
  Digit : Kind
  Back : Kind
  Mark : Kind
  Other : Kind

abbrev pub kind : ℕ → Kind
kind c = cond (is_letter c) Letter (cond (is_digit c) Digit (cond (c == 96) Back (cond (c == 34) Mark Other)))

pub digit_no_letter : (c : ℕ) → is_digit c ≡ true → is_letter c ≡ false
digit_no_letter c h = grind (arith, h)

pub no_eq : (c d : ℕ) → (c ≡ d → ⊥) → (c == d) ≡ false
no_eq c d h = elim (cases_Bool (c == d)) [ inl e ↦ absurd (h (eqb→eq c d (rw e tt))) | inr e ↦ e ]
