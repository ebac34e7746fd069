-- The least fault of a line.
use Rattle.std.proofs.Common.{◌≡◌, ◌≤◌, ◌<◌, ◌+◌, ◌∷◌, ◌∙◌, ◌⊎◌, sym, refl, ap, inl, inr, ℕ, zero, suc, Bool, true, false, List, [], map, Option, Some, None, Result, Ok, Err, IfOk, IfErr, is_some, arith, nat_lt}
use Rattle.std.proofs.lemmas.Bool.{cases_Bool}
use Rattle.pipe_expr.specs.declared.token.Token.{Token}
use Rattle.pipe_expr.proofs.Basics.{some_inj}
use Rattle.pipe_steps.specs.declared.line.Line.{Line}
use Rattle.pipe_steps.specs.Said.{Said, view}
use Rattle.pipe_checks.specs.declared.standing.Place.{Place}
use Rattle.pipe_steps.specs.Forms.{Says}
use Rattle.pipe_steps.specs.Reading.{said}
use Rattle.pipe_steps.proofs.Again.{said-again, said-sound}
use Rattle.pipe_checks.specs.declared.fault.Fault.{Fault}
use Rattle.pipe_checks.specs.declared.fault.Fault.TheVariants as f
use Rattle.pipe_checks.specs.Places.{Spot, SaysIn, Accepts, Refuses, Has, Lacks, rank, faulty, stands, suits, said_when, said_in, first_of, fault_of, Verdict, Right, Wrong, ruled, unread, read_so, verdict, next, spot}
use Rattle.pipe_checks.specs.declared.fault.LineStop.{LineStop}
use Rattle.pipe_checks.specs.declared.fault.LineStop.TheVariants as stops
use Rattle.pipe_checks.specs.Places.{IsRefused, StopsAs}
use Rattle.pipe_checks.specs.Places as places

-- ---- what a line says in a version, decided

pub in-again : (v : ℕ) (y : Said) (ts : List Token) → SaysIn v y ts → said_in v ts ≡ Some y
in-again v y ts s = rw (said-again y ts s.0, s.1) refl

when_is : (v : ℕ) (o : Option Said) (y : Said) → said_when v o ≡ Some y → (o ≡ Some y) × (suits v y ≡ true)
when_is v None y h = cc h
when_is v (Some z) y h = elim (cases_Bool (suits v z)) [
  | inl e ↦ let same : z ≡ y = some_inj _ _ (rw e at h) in (ap Some same, ap (suits v) (sym same) ∙ e)
  | inr e ↦ let bad = rw e at h in cc bad
]

pub in-sound : (v : ℕ) (y : Said) (ts : List Token) → said_in v ts ≡ Some y → SaysIn v y ts
in-sound v y ts h = let w = when_is v (said ts) y h in (said-sound y ts w.0, w.1)

pub in-none : (v : ℕ) (y : Said) (ts : List Token) → said_in v ts ≡ None → ¬ (SaysIn v y ts)
in-none v y ts h = λ s. let both : Some y ≡ None = sym (in-again v y ts s) ∙ h in cc both

-- a line says one thing
pub one_saying : (v : ℕ) (x y : Said) (ts : List Token) → SaysIn v x ts → SaysIn v y ts → x ≡ y
one_saying v x y ts a b = some_inj _ _ (sym (in-again v x ts a) ∙ in-again v y ts b)

-- ---- one kind after the other

-- the fault of a number
of_rank : ℕ → Fault
of_rank (suc (suc (suc (suc zero)))) = f.Step
of_rank (suc (suc (suc (suc (suc zero))))) = f.Shape
of_rank (suc (suc (suc (suc (suc (suc zero)))))) = f.Number
of_rank (suc (suc (suc (suc (suc (suc (suc zero))))))) = f.Depth
of_rank (suc (suc (suc (suc (suc (suc (suc (suc zero)))))))) = f.Name
of_rank (suc (suc (suc (suc (suc (suc (suc (suc (suc zero))))))))) = f.Type
of_rank (suc (suc (suc (suc (suc (suc (suc (suc (suc (suc zero)))))))))) = f.Zero
of_rank (suc (suc (suc (suc (suc (suc (suc (suc (suc (suc (suc zero))))))))))) = f.Columns
of_rank _ = f.Steps

back : (k : Fault) → of_rank (rank k) ≡ k
unfolding of_rank
back f.Step = refl
back f.Shape = refl
back f.Number = refl
back f.Depth = refl
back f.Name = refl
back f.Type = refl
back f.Zero = refl
back f.Columns = refl
back f.Steps = refl

same_rank : (j k : Fault) → rank j ≡ rank k → j ≡ k
same_rank j k h = sym (back j) ∙ ap of_rank h ∙ back k

from_four : (k : Fault) → 4 ≤ rank k
from_four f.Step = omega arith
from_four f.Shape = omega arith
from_four f.Number = omega arith
from_four f.Depth = omega arith
from_four f.Name = omega arith
from_four f.Type = omega arith
from_four f.Zero = omega arith
from_four f.Columns = omega arith
from_four f.Steps = omega arith

none_yet : (p : Spot) (ts : List Token) → Lacks p 4 ts
none_yet p ts = λ k lt. absurd (omega (arith, lt, from_four k))

split : (a b : ℕ) → a < suc b → (a ≡ b) ⊎ (a < b)
split a b lt = elim (cases_Bool (nat_lt a b)) [
  | inl e ↦ inr (grind (arith, e))
  | inr e ↦ inl (grind (arith, e, lt))
]

-- one more fault that the line hasn't
one_more : (p : Spot) (k : Fault) (ts : List Token) → Lacks p (rank k) ts → ¬ (Has p k ts) → Lacks p (suc (rank k)) ts
one_more p k ts l h = λ j lt has. elim (split (rank j) (rank k) lt) [
  | inl same ↦ h (rw (same_rank j k same) at has)
  | inr less ↦ l j less has
]

-- ---- the later faults, each by its test

-- what a test of the later faults comes to
abbrev pub Judged : Spot → Said → List Token → Option Fault → Type 0
Judged p y ts None = Accepts p y ts
Judged p y ts (Some k) = Refuses p k ts

no_fault : (p : Spot) (x : Said) (ts : List Token) (k : Fault) → SaysIn p.version x ts → faulty p x k ≡ false → (y : Said) × SaysIn p.version y ts × (faulty p y k ≡ true) → ⊥
no_fault p x ts k s a (y, says, b) =
    let same : x ≡ y = one_saying p.version x y ts s says in
    let c : faulty p x k ≡ true = ap (λ (z : Said). faulty p z k) same ∙ b in
    let bad : true ≡ false = sym c ∙ a in
    cc bad

-- one test more
tests : (p : Spot) (x : Said) (ts : List Token) (k : Fault) (rest : List Fault) → (faulty p x k ≡ true → Refuses p k ts) → (faulty p x k ≡ false → Judged p x ts (first_of p x rest)) → Judged p x ts (first_of p x (k ∷ rest))
tests p x ts k rest there absent = elim (cases_Bool (faulty p x k)) [
  | inl a ↦ rw a (there a)
  | inr a ↦ rw a (absent a)
]

pub tested : (p : Spot) (x : Said) (ts : List Token) → SaysIn p.version x ts → Lacks p 7 ts → Judged p x ts (fault_of p x)
tested p x ts s l7 =
    tests p x ts f.Depth (f.Name ∷ f.Type ∷ f.Zero ∷ f.Columns ∷ f.Steps ∷ []) (λ h. ((x, s, h), l7)) (λ a.
    let l8 = one_more p f.Depth ts l7 (no_fault p x ts f.Depth s a) in
    tests p x ts f.Name (f.Type ∷ f.Zero ∷ f.Columns ∷ f.Steps ∷ []) (λ h. ((x, s, h), l8)) (λ b.
    let l9 = one_more p f.Name ts l8 (no_fault p x ts f.Name s b) in
    tests p x ts f.Type (f.Zero ∷ f.Columns ∷ f.Steps ∷ []) (λ h. ((x, s, h), l9)) (λ c.
    let l10 = one_more p f.Type ts l9 (no_fault p x ts f.Type s c) in
    tests p x ts f.Zero (f.Columns ∷ f.Steps ∷ []) (λ h. ((x, s, h), l10)) (λ d.
    let l11 = one_more p f.Zero ts l10 (no_fault p x ts f.Zero s d) in
    tests p x ts f.Columns (f.Steps ∷ []) (λ h. ((x, s, h), l11)) (λ e.
    let l12 = one_more p f.Columns ts l11 (no_fault p x ts f.Columns s e) in
    tests p x ts f.Steps [] (λ h. ((x, s, h), l12)) (λ g. (s, one_more p f.Steps ts l12 (no_fault p x ts f.Steps s g))))))))

-- ---- the verdict

placed : (p : Spot) (ts : List Token) → stands p ts ≡ true → Lacks p 5 ts
placed p ts s = one_more p f.Step ts (none_yet p ts) (λ n. let bad : true ≡ false = sym s ∙ n in cc bad)

-- a line that reads has its shape and its numbers
read_well : (p : Spot) (x : Said) (ts : List Token) → Lacks p 5 ts → SaysIn p.version x ts → Lacks p 7 ts
read_well p x ts l s = one_more p f.Number ts (one_more p f.Shape ts l (λ h. h.0 x s)) (λ h. h x s)

abbrev pub Meets : Spot → List Token → Verdict → Type 0
Meets p ts (Right y) = Accepts p y ts
Meets p ts (Wrong k) = Refuses p k ts

of_judged : (p : Spot) (y : Said) (ts : List Token) (o : Option Fault) → Judged p y ts o → Meets p ts (ruled y o)
of_judged p y ts None h = h
of_judged p y ts (Some k) h = h

of_unread : (p : Spot) (ts : List Token) (o : Option Said) → said_in p.version (map places.zero ts) ≡ o → said_in p.version ts ≡ None → Lacks p 5 ts → Meets p ts (unread (is_some o))
of_unread p ts (Some y) z n l = ((λ x. in-none p.version x ts n), one_more p f.Shape ts l (λ h. h.1 y (in-sound p.version y (map places.zero ts) z)))
of_unread p ts None z n l = ((λ x. in-none p.version x ts n, λ x. in-none p.version x (map places.zero ts) z), l)

of_read : (p : Spot) (ts : List Token) (o : Option Said) → said_in p.version ts ≡ o → Lacks p 5 ts → Meets p ts (read_so p ts o)
of_read p ts (Some y) r l = let s = in-sound p.version y ts r in of_judged p y ts (fault_of p y) (tested p y ts s (read_well p y ts l s))
of_read p ts None r l = of_unread p ts (said_in p.version (map places.zero ts)) refl r l

pub meets : (p : Spot) (ts : List Token) → Meets p ts (verdict p ts)
meets p ts = elim (cases_Bool (stands p ts)) [
  | inl s ↦ rw s (of_read p ts (said_in p.version ts) refl (placed p ts s))
  | inr s ↦ rw s (s, none_yet p ts)
]

-- ---- each line is accepted as one thing or has one least fault, and not both

pub one_accepted : (p : Spot) (x y : Said) (ts : List Token) → Accepts p x ts → Accepts p y ts → x ≡ y
one_accepted p x y ts a b = one_saying p.version x y ts a.0 b.0

to_twelve : (k : Fault) → rank k < 13
to_twelve f.Step = omega arith
to_twelve f.Shape = omega arith
to_twelve f.Number = omega arith
to_twelve f.Depth = omega arith
to_twelve f.Name = omega arith
to_twelve f.Type = omega arith
to_twelve f.Zero = omega arith
to_twelve f.Columns = omega arith
to_twelve f.Steps = omega arith

pub not_both : (p : Spot) (x : Said) (k : Fault) (ts : List Token) → Accepts p x ts → ¬ (Refuses p k ts)
not_both p x k ts a = λ r. a.1 k (to_twelve k) r.0

pub one_refused : (p : Spot) (j k : Fault) (ts : List Token) → Refuses p j ts → Refuses p k ts → j ≡ k
one_refused p j k ts a b = elim (cases_Bool (nat_lt (rank j) (rank k))) [
  | inl e ↦ let lt : rank j < rank k = grind (arith, e) in absurd (b.1 j lt a.0)
  | inr e ↦ elim (cases_Bool (nat_lt (rank k) (rank j))) [
    | inl g ↦ let lt : rank k < rank j = grind (arith, g) in absurd (a.1 k lt b.0)
    | inr g ↦ same_rank j k (grind (arith, e, g))
  ]
]

-- what stops a line is its least fault
pub stopped : (p : Spot) (ts : List Token) (e : LineStop) → StopsAs e (verdict p ts) → IsRefused p e ts
stopped p ts (stops.Fault k) h = rw h at (meets p ts)
stopped p ts stops.Memory h = tt

pub accepted : (p : Spot) (ts : List Token) (y : Said) → verdict p ts ≡ ruled y (fault_of p y) → fault_of p y ≡ None → Accepts p y ts
accepted p ts y h n = rw (h, n) at (meets p ts)

-- the same of what was settled, with the line put beside the place after it
abbrev pub Beside : Line → Result Place LineStop → Line × Place → Type 0
Beside line settled x = (x.0 ≡ line) × (settled ≡ Ok x.1)

pub settled_accepts : (p : Spot) (ts : List Token) (line : Line) (s : Result Place LineStop) (r : Result (Line × Place) LineStop) → IfOk r (Beside line s) → IfOk s (λ _. fault_of p (view line) ≡ None) → verdict p ts ≡ ruled (view line) (fault_of p (view line)) → IfOk r (λ x. Accepts p (view x.0) ts)
settled_accepts p ts line s (Ok x) f g h = rw f.0 (accepted p ts (view line) h (rw f.1 at g))
settled_accepts p ts line s (Err e) f g h = tt

pub settled_next : (p : Spot) (line : Line) (s : Result Place LineStop) (r : Result (Line × Place) LineStop) → IfOk r (Beside line s) → IfOk s (λ q. spot q ≡ next p (view line)) → IfOk r (λ x. spot x.1 ≡ next p (view x.0))
settled_next p line s (Ok x) f g = rw f.0 (rw f.1 at g)
settled_next p line s (Err e) f g = tt

pub settled_refuses : (p : Spot) (ts : List Token) (line : Line) (s : Result Place LineStop) (r : Result (Line × Place) LineStop) → IfErr r (λ e. s ≡ Err e) → IfErr s (λ e. StopsAs e (ruled (view line) (fault_of p (view line)))) → verdict p ts ≡ ruled (view line) (fault_of p (view line)) → IfErr r (λ e. IsRefused p e ts)
settled_refuses p ts line s (Ok x) f g h = tt
settled_refuses p ts line s (Err e) f g h = stopped p ts e (rw h (rw f at g))
