-- The order of lines: what each line may follow, and which plan they come to.
use Rattle.std.proofs.Common.{◌≡◌, ◌+◌, ◌<◌, ◌∷◌, ◌++◌, ◌∙◌, ◌⊎◌, sym, refl, ap, subst, inl, inr, ℕ, List, [], length, map, append_assoc, Bool, true, false, Option, Some, None, arith}
use Rattle.std.specs.Prelude.{◌&&◌, ◌||◌, not}
use Rattle.std.proofs.lemmas.List.{map-append}
use Rattle.std.proofs.lemmas.Bool.{cases_Bool}
use Rattle.pipe_text.specs.Token.{Lex}
use Rattle.pipe_expr.specs.declared.token.Token.{Token}
use Rattle.pipe_expr.specs.declared.token.Token.TheVariants as t
use Rattle.pipe_expr.specs.declared.token.Reserved.{Reserved}
use Rattle.pipe_expr.specs.declared.token.Reserved.TheVariants as r
use Rattle.pipe_expr.specs.declared.token.Verb.{Verb}
use Rattle.pipe_expr.specs.declared.token.Verb.TheVariants as v
use Rattle.pipe_steps.specs.declared.source.Kind.{Kind}
use Rattle.pipe_steps.specs.declared.source.Kind.TheVariants as kinds
use Rattle.pipe_steps.specs.Said.{Origin, Middle, End, Said, Second, Begins, Par, Goes, Ends}
use Rattle.pipe_steps.specs.Forms.{HasForm, IsPart, line_form, source_form}
use Rattle.pipe_steps.specs.Forms as forms
use Rattle.pipe_checks.specs.declared.fault.Fault.TheVariants as f
use Rattle.pipe_checks.specs.Places.{Spot, Accepts, next, stands, start, word_stands}
use Rattle.pipe_tokens.specs.Meaning.{all_meant}
use Rattle.pipe_program.specs.Plans.{Plan, AreOf, Holds, Opens}
use Rattle.pipe_program.specs.Parts.{Parts, no_parts, whole, with_ends, with_line}
use Rattle.pipe_program.specs.Reading.{Says}

-- ---- a line that is accepted may stand there

-- whether a line that says this may stand there
abbrev pub admits : Spot → Said → Bool
admits p Second = not p.opened
admits p (Begins o) = not p.begun
admits p (Par k) = p.fresh
admits p (Goes m) = p.begun && not p.ended
admits p (Ends l) = p.begun && not p.ended

word_admits : (p : Spot) (w : Verb) (y : Said) (rest : List Token) → HasForm IsPart (line_form w) y rest → word_stands p w ≡ admits p y
word_admits p v.Pipeline y rest h = rw h.1.0 refl
word_admits p v.Par y rest h = rw h.4.0 refl
word_admits p v.Map y rest h = rw h.4.0 refl
word_admits p v.Collect y rest h = rw h.4.1.4.0 refl
word_admits p v.FlatMap y rest h = rw h.1.4.4.0 refl
word_admits p v.ZipWithIndex y rest h = rw h.1.4.0 refl
word_admits p v.Scan y rest h = rw h.4.4.1.4.0 refl
word_admits p v.GroupBy y rest h = rw h.4.1.4.0 refl
word_admits p v.Take y rest h = rw h.4.0 refl
word_admits p v.Drop y rest h = rw h.4.0 refl
word_admits p v.Slice y rest h = rw h.4.1.4.0 refl
word_admits p v.Zip y rest h = rw h.1.4.1.4.1.4.1.4.0 refl
word_admits p v.Reverse y rest h = rw h.0 refl
word_admits p v.Distinct y rest h = rw h.0 refl
word_admits p v.SplitAt y rest h = rw h.4.0 refl
word_admits p v.Print y rest h = rw h.0 refl
word_admits p v.Size y rest h = rw h.0 refl
word_admits p v.MkString y rest h = rw h.4.4.0 refl
word_admits p v.SegmentLength y rest h = rw h.4.1.4.0 refl
word_admits p v.ToMap y rest h = rw h.4.1.4.0 refl
word_admits p v.Filter y rest h = rw h.4.0 refl
word_admits p v.FilterNot y rest h = rw h.4.0 refl
word_admits p v.TakeWhile y rest h = rw h.4.0 refl
word_admits p v.DropWhile y rest h = rw h.4.0 refl
word_admits p v.Count y rest h = rw h.4.0 refl
word_admits p v.Sum y rest h = rw h.4.0 refl
word_admits p v.Product y rest h = rw h.4.0 refl
word_admits p v.Min y rest h = rw h.4.0 refl
word_admits p v.Max y rest h = rw h.4.0 refl
word_admits p v.Find y rest h = rw h.4.0 refl
word_admits p v.Exists y rest h = rw h.4.0 refl
word_admits p v.Forall y rest h = rw h.4.0 refl
word_admits p v.IndexWhere y rest h = rw h.4.0 refl
word_admits p v.LastIndexWhere y rest h = rw h.4.0 refl
word_admits p v.Span y rest h = rw h.4.0 refl
word_admits p v.Partition y rest h = rw h.4.0 refl
word_admits p v.ToSet y rest h = rw h.4.0 refl
word_admits p v.Plain y rest h = absurd h
word_admits p v.Array y rest h = absurd h
word_admits p v.Vector y rest h = absurd h

source_admits : (p : Spot) (w : Reserved) (y : Said) (rest : List Token) → HasForm IsPart (source_form w) y rest → not p.begun ≡ admits p y
source_admits p r.Csv y rest h = rw h.4.0 refl
source_admits p r.Range y rest h = rw h.4.1.4.4.0 refl
source_admits p _ y rest h = absurd h

pub stands_so : (p : Spot) (y : Said) (ts : List Token) → forms.Says y ts → stands p ts ≡ admits p y
stands_so p y ts h = elim h [
  | inl g ↦ rw g.4 (word_admits p g.0 y g.2 g.3)
  | inr g ↦ rw g.3 (source_admits p g.0 y g.1 g.2)
]

stands_there : (p : Spot) (y : Said) (ts : List Token) → Accepts p y ts → stands p ts ≡ true
stands_there p y ts a = elim (cases_Bool (stands p ts)) [
  | inl e ↦ e
  | inr e ↦ absurd (a.1 f.Step (omega arith) e)
]

pub admitted : (p : Spot) (line : List ℕ) (y : Said) → Says p line y → admits p y ≡ true
admitted p line y h =
    let ts = all_meant p.version (h.0 ∷ h.1) in
    sym (stands_so p y ts h.3.0.0) ∙ stands_there p y ts h.3

-- ---- the lines so far, the parts of a plan that they said, and the place after them

-- before the source: nothing, or the line of version 2
abbrev pub IsBefore : Bool → ℕ → List Said → Type 0
IsBefore false version ys = (version ≡ 1) × (ys ≡ [])
IsBefore true version ys = (version ≡ 2) × (ys ≡ Second ∷ [])

-- right behind the source
abbrev pub IsFresh : Bool → Kind → List Said → List Middle → Type 0
IsFresh true k par ms = (k ≡ kinds.Array) × (par ≡ []) × (ms ≡ [])
IsFresh false k par ms = Unit {0}

abbrev pub Follows : Spot → ℕ → Kind → List Middle → Option Origin → Option End → List Said → Type 0
Follows p version k ms None None ys = (p.begun ≡ false) × (p.fresh ≡ false) × (p.ended ≡ false) × (k ≡ kinds.Array) × (ms ≡ []) × IsBefore p.opened version ys
Follows p version k ms None (Some l) ys = ⊥
Follows p version k ms (Some o) None ys = (p.opened ≡ true) × (p.begun ≡ true) × (p.ended ≡ false)
    × (head : List Said) × (par : List Said) × Opens version head × Holds k par × IsFresh p.fresh k par ms × (ys ≡ head ++ Begins o ∷ (par ++ map Goes ms))
Follows p version k ms (Some o) (Some l) ys = (p.opened ≡ true) × (p.begun ≡ true) × (p.fresh ≡ false) × (p.ended ≡ true)
    × AreOf (record { version = version; origin = o; kind = k; middles = ms; last = l }) ys

abbrev pub Ordered : Spot → Parts → List Said → Type 0
Ordered p d ys = Follows p d.version d.kind d.middles d.origin d.last ys

pub nothing_yet : Ordered start no_parts []
nothing_yet = (refl, refl, refl, refl, refl, (refl, refl))

not_true : (b : Bool) → not b ≡ true → b ≡ false
not_true true h = cc h
not_true false h = refl

opens : (b : Bool) (version : ℕ) (ys : List Said) → IsBefore b version ys → Opens version ys
opens false version ys h = inl h
opens true version ys h = inr h

-- another line behind the middle steps
further : (head par : List Said) (o : Origin) (ms : List Middle) (y : Said) → (head ++ Begins o ∷ (par ++ map Goes ms)) ++ y ∷ [] ≡ head ++ Begins o ∷ (par ++ (map Goes ms ++ y ∷ []))
further head par o ms y =
    append_assoc head (Begins o ∷ (par ++ map Goes ms)) (y ∷ [])
    ∙ ap (λ (x : List Said). head ++ Begins o ∷ x) (append_assoc par (map Goes ms) (y ∷ []))

goes_on : (p : Spot) (version : ℕ) (k : Kind) (ms : List Middle) (o : Option Origin) (l : Option End) (ys : List Said) (m : Middle) → Follows p version k ms o l ys → p.begun && not p.ended ≡ true → Follows (next p (Goes m)) version k (ms ++ m ∷ []) o l (ys ++ Goes m ∷ [])
goes_on p version k ms None None ys m b a = let bad = rw b.0 at a in cc bad
goes_on p version k ms None (Some l) ys m b a = absurd b
goes_on p version k ms (Some o) None ys m b a = (refl, rw b.1 refl, refl, b.3, b.4, b.5, b.6, tt, rw b.8 (rw (map-append Goes ms (m ∷ [])) (further b.3 b.4 o ms (Goes m))))
goes_on p version k ms (Some o) (Some l) ys m b a = let bad = rw (b.1, b.3) at a in cc bad

ends_it : (p : Spot) (version : ℕ) (k : Kind) (ms : List Middle) (o : Option Origin) (l : Option End) (ys : List Said) (e : End) → Follows p version k ms o l ys → p.begun && not p.ended ≡ true → Follows (next p (Ends e)) version k ms o (Some e) (ys ++ Ends e ∷ [])
ends_it p version k ms None None ys e b a = let bad = rw b.0 at a in cc bad
ends_it p version k ms None (Some l) ys e b a = absurd b
ends_it p version k ms (Some o) None ys e b a = (refl, rw b.1 refl, refl, refl, (b.3, b.4, b.5, b.6, rw b.8 (further b.3 b.4 o ms (Ends e))))
ends_it p version k ms (Some o) (Some l) ys e b a = let bad = rw (b.1, b.3) at a in cc bad

-- another line puts in what it says
more : (p : Spot) (version : ℕ) (k : Kind) (ms : List Middle) (o : Option Origin) (l : Option End) (ys : List Said) (y : Said) → Follows p version k ms o l ys → admits p y ≡ true → Ordered (next p y) (with_line (record { version = version; origin = o; kind = k; middles = ms; last = l }) y) (ys ++ y ∷ [])
more p version k ms None None ys Second b a =
    let before = rw (not_true p.opened a) at b.5 in
    (rw b.0 refl, refl, refl, b.3, b.4, (refl, rw before.1 refl))
more p version k ms None (Some l) ys Second b a = absurd b
more p version k ms (Some o) None ys Second b a = let bad = rw b.0 at a in cc bad
more p version k ms (Some o) (Some l) ys Second b a = let bad = rw b.0 at a in cc bad
more p version k ms None None ys (Begins x) b a = (refl, rw b.0 refl, refl, ys, [], opens p.opened version ys b.5, inl (b.3, refl), (b.3, refl, b.4), rw b.4 refl)
more p version k ms None (Some l) ys (Begins x) b a = absurd b
more p version k ms (Some o) None ys (Begins x) b a = let bad = rw b.1 at a in cc bad
more p version k ms (Some o) (Some l) ys (Begins x) b a = let bad = rw b.1 at a in cc bad
more p version k ms None None ys (Par x) b a = let bad = rw b.1 at a in cc bad
more p version k ms None (Some l) ys (Par x) b a = absurd b
more p version k ms (Some o) None ys (Par x) b a =
    let fresh = rw a at b.7 in
    (refl, rw b.1 refl, refl, b.3, Par x ∷ [], b.5, inr refl, tt, rw (b.8, fresh.1, fresh.2) (append_assoc b.3 (Begins o ∷ []) (Par x ∷ [])))
more p version k ms (Some o) (Some l) ys (Par x) b a = let bad = rw b.2 at a in cc bad
more p version k ms o l ys (Goes m) b a = goes_on p version k ms o l ys m b a
more p version k ms o l ys (Ends e) b a = ends_it p version k ms o l ys e b a

pub one_more : (p : Spot) (d : Parts) (ys : List Said) (y : Said) → Ordered p d ys → admits p y ≡ true → Ordered (next p y) (with_line d y) (ys ++ y ∷ [])
one_more p d ys y b a = more p d.version d.kind d.middles d.origin d.last ys y b a

-- ---- the end

ended_so : (p : Spot) (version : ℕ) (k : Kind) (ms : List Middle) (o : Option Origin) (l : Option End) (ys : List Said) (w : Plan) → Follows p version k ms o l ys → with_ends (record { version = version; origin = o; kind = k; middles = ms; last = l }) o l ≡ Some w → (p.ended ≡ true) × AreOf w ys
ended_so p version k ms None None ys w b h = cc h
ended_so p version k ms None (Some l) ys w b h = cc h
ended_so p version k ms (Some o) None ys w b h = cc h
ended_so p version k ms (Some o) (Some l) ys w b h = let same : record { version = version; origin = o; kind = k; middles = ms; last = l } ≡ w = cc h in (b.3, subst (λ (x : Plan). AreOf x ys) same b.4)

-- what is whole is the plan of the lines
pub ended_whole : (p : Spot) (d : Parts) (ys : List Said) (w : Plan) → Ordered p d ys → whole d ≡ Some w → (p.ended ≡ true) × AreOf w ys
ended_whole p d ys w b h = ended_so p d.version d.kind d.middles d.origin d.last ys w b h

open_so : (p : Spot) (version : ℕ) (k : Kind) (ms : List Middle) (o : Option Origin) (l : Option End) (ys : List Said) → Follows p version k ms o l ys → with_ends (record { version = version; origin = o; kind = k; middles = ms; last = l }) o l ≡ None → p.ended ≡ false
open_so p version k ms None None ys b h = b.2
open_so p version k ms None (Some l) ys b h = absurd b
open_so p version k ms (Some o) None ys b h = b.2
open_so p version k ms (Some o) (Some l) ys b h = cc h

pub not_ended : (p : Spot) (d : Parts) (ys : List Said) → Ordered p d ys → whole d ≡ None → p.ended ≡ false
not_ended p d ys b h = open_so p d.version d.kind d.middles d.origin d.last ys b h
