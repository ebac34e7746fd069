-- Whether a line is accepted depends on what it says, and not on how it is spelled.
use Rattle.std.proofs.Common.{◌≡◌, ◌+◌, ◌<◌, ◌==◌, ◌∷◌, ◌++◌, ◌∙◌, ◌⊎◌, sym, refl, ap, subst, inl, inr, ℕ, List, [], length, map, Bool, true, false, arith}
use Rattle.std.specs.Prelude.{◌&&◌, ◌||◌, not}
use Rattle.std.specs.Str.Lines.{lines}
use Rattle.std.proofs.lemmas.Bool.{cases_Bool}
use Rattle.pipe_text.specs.Token.{Lex}
use Rattle.pipe_text.specs.Line.{ReadsAs}
use Rattle.pipe_tokens.specs.Meaning.{all_meant}
use Rattle.pipe_expr.specs.declared.token.Token.{Token}
use Rattle.par_rows.specs.declared.schema.Column.{Column}
use Rattle.pipe_steps.specs.declared.source.Kind.{Kind}
use Rattle.pipe_steps.specs.Said.{Origin, Middle, End, Said, Second, Begins, Par, Goes, Ends}
use Rattle.pipe_steps.specs.Forms as forms
use Rattle.pipe_checks.specs.declared.fault.Fault.{Fault}
use Rattle.pipe_checks.specs.declared.fault.Fault.TheVariants as f
use Rattle.pipe_checks.specs.Places.{Spot, SaysIn, Accepts, Has, Lacks, faulty, misnamed, mistyped, next, rank, stands, start, stuck, suits, too_deep, too_many, too_wide}
use Rattle.pipe_checks.specs.Columns.{source_columns}
use Rattle.pipe_program.specs.Plans.{Plan, AreOf, Holds, Opens}
use Rattle.pipe_program.specs.Reading.{Says, ReadsFrom, Reads}
use Rattle.pipe_program.specs.Spelling.{AreSayable, AreSpelled, IsSayable, Spells, steps_of, version_at}
use Rattle.pipe_program.proofs.Order.{admits, admitted, stands_so}

-- no tokens say two lines
abbrev pub OneSaying : Type 0
OneSaying = (x y : Said) (ts : List Token) → forms.Says x ts → forms.Says y ts → x ≡ y

-- ---- what a line may say in a place

-- a line that says this has no fault there
pub record Fits (p : Spot) (y : Said) : Type 0 where
  pub admitted : admits p y ≡ true
  pub suits : suits p.version y ≡ true
  pub shallow : too_deep y ≡ false
  pub named : misnamed p.columns y ≡ false
  pub typed : mistyped p.columns y ≡ false
  pub moves : stuck y ≡ false
  pub narrow : too_wide p.columns y ≡ false
  pub few : too_many p.steps y ≡ false

lacks : (p : Spot) (y : Said) (ts : List Token) (k : Fault) → SaysIn p.version y ts → ((y : Said) × SaysIn p.version y ts × (faulty p y k ≡ true) → ⊥) → faulty p y k ≡ false
lacks p y ts k s none = elim (cases_Bool (faulty p y k)) [
  | inl e ↦ absurd (none (y, s, e))
  | inr e ↦ e
]

fits : (p : Spot) (line : List ℕ) (y : Said) → Says p line y → Fits p y
fits p line y h =
    let ts = all_meant p.version (h.0 ∷ h.1) in
    record {
      admitted = admitted p line y h;
      suits = h.3.0.1;
      shallow = lacks p y ts f.Depth h.3.0 (h.3.1 f.Depth (omega arith));
      named = lacks p y ts f.Name h.3.0 (h.3.1 f.Name (omega arith));
      typed = lacks p y ts f.Type h.3.0 (h.3.1 f.Type (omega arith));
      moves = lacks p y ts f.Zero h.3.0 (h.3.1 f.Zero (omega arith));
      narrow = lacks p y ts f.Columns h.3.0 (h.3.1 f.Columns (omega arith));
      few = lacks p y ts f.Steps h.3.0 (h.3.1 f.Steps (omega arith));
    }

no_other : OneSaying → (p : Spot) (y : Said) (ts : List Token) (k : Fault) → forms.Says y ts → faulty p y k ≡ false → (z : Said) × SaysIn p.version z ts × (faulty p z k ≡ true) → ⊥
no_other one p y ts k s e (z, t, b) =
    let same = one z y ts t.0 s in
    let bad : true ≡ false = sym b ∙ ap (λ (x : Said). faulty p x k) same ∙ e in
    cc bad

-- and so it is accepted, however it is spelled
accepts : OneSaying → (p : Spot) (y : Said) (ts : List Token) → forms.Says y ts → Fits p y → Accepts p y ts
accepts one p y ts s g = ((s, g.suits), none)
  where
    none : (k : Fault) → rank k < 13 → Has p k ts → ⊥
    none f.Step lt h = let bad : true ≡ false = sym (stands_so p y ts s ∙ g.admitted) ∙ h in cc bad
    none f.Shape lt h = h.0 y (s, g.suits)
    none f.Number lt h = h y (s, g.suits)
    none f.Depth lt h = no_other one p y ts f.Depth s g.shallow h
    none f.Name lt h = no_other one p y ts f.Name s g.named h
    none f.Type lt h = no_other one p y ts f.Type s g.typed h
    none f.Zero lt h = no_other one p y ts f.Zero s g.moves h
    none f.Columns lt h = no_other one p y ts f.Columns s g.narrow h
    none f.Steps lt h = no_other one p y ts f.Steps s g.few h

abbrev pub AllFit : Spot → List Said → Type 0
AllFit p [] = p.ended ≡ true
AllFit p (y ∷ ys) = Fits p y × AllFit (next p y) ys

all_fit : (ls : List (List ℕ)) (p : Spot) (ys : List Said) → ReadsFrom p ls ys → AllFit p ys
all_fit [] p ys h = rw h.1 h.0
all_fit (line ∷ ls) p ys h = elim h [
  | inl g ↦ all_fit ls p ys g.1
  | inr g ↦ rw g.4 (fits p line g.0 g.2, all_fit ls (next p g.0) g.1 g.3)
]

-- ---- with a `par` line or without

-- behind a source
abbrev behind : ℕ → ℕ → List Column → Bool → Spot
behind version steps cs fresh = record { version = version; opened = true; begun = true; fresh = fresh; ended = false; steps = steps; columns = cs }

unfresh : (version steps : ℕ) (cs : List Column) (a b : Bool) (ms : List Middle) (l : End) → AllFit (behind version steps cs a) (map Goes ms ++ Ends l ∷ []) → AllFit (behind version steps cs b) (map Goes ms ++ Ends l ∷ [])
unfresh version steps cs a b [] l h = (same h.0, h.1)
  where
    same : Fits (behind version steps cs a) (Ends l) → Fits (behind version steps cs b) (Ends l)
    same g = record { admitted = g.admitted; suits = g.suits; shallow = g.shallow; named = g.named; typed = g.typed; moves = g.moves; narrow = g.narrow; few = g.few }
unfresh version steps cs a b (m ∷ ms) l h = (same h.0, h.1)
  where
    same : Fits (behind version steps cs a) (Goes m) → Fits (behind version steps cs b) (Goes m)
    same g = record { admitted = g.admitted; suits = g.suits; shallow = g.shallow; named = g.named; typed = g.typed; moves = g.moves; narrow = g.narrow; few = g.few }

not_true : (b : Bool) → not b ≡ true → b ≡ false
not_true true h = cc h
not_true false h = refl

source_place : (p : Spot) (o : Origin) → Fits p (Begins o) → next p (Begins o) ≡ behind p.version (p.steps + 1) (source_columns o) true
source_place p o g = ap (λ (b : Bool). record { version = p.version; opened = true; begun = b || true; fresh = true; ended = false; steps = p.steps + 1; columns = source_columns o }) (not_true p.begun g.admitted)

par_suits : (version : ℕ) (k : Kind) → suits version (Par k) ≡ true
unfolding suits
par_suits version k = go (version == 1)
  where
    go : (b : Bool) → not b || true ≡ true
    go true = refl
    go false = refl

par_fits : (p : Spot) (o : Origin) (k : Kind) → Fits p (Begins o) → Fits (behind p.version (p.steps + 1) (source_columns o) true) (Par k)
unfolding too_deep misnamed mistyped stuck too_wide too_many
par_fits p o k g = record { admitted = refl; suits = par_suits p.version k; shallow = refl; named = g.named; typed = refl; moves = refl; narrow = g.narrow; few = refl }

other_par : (p : Spot) (o : Origin) (k : Kind) (par other : List Said) (ms : List Middle) (l : End) → Holds k par → Holds k other
    → AllFit p (Begins o ∷ (par ++ (map Goes ms ++ Ends l ∷ []))) → AllFit p (Begins o ∷ (other ++ (map Goes ms ++ Ends l ∷ [])))
other_par p o k par other ms l a b h = (h.0, rw place (put other b (rw place at h.1)))
  where
    place : next p (Begins o) ≡ behind p.version (p.steps + 1) (source_columns o) true
    place = source_place p o h.0

    core : (par : List Said) → Holds k par → AllFit (behind p.version (p.steps + 1) (source_columns o) true) (par ++ (map Goes ms ++ Ends l ∷ [])) → AllFit (behind p.version (p.steps + 1) (source_columns o) true) (map Goes ms ++ Ends l ∷ [])
    core par (inl e) x = rw e.1 at x
    core par (inr e) x = unfresh p.version (p.steps + 1) (source_columns o) false true ms l (rw e at x).1

    onto : (other : List Said) → Holds k other → AllFit (behind p.version (p.steps + 1) (source_columns o) true) (map Goes ms ++ Ends l ∷ []) → AllFit (behind p.version (p.steps + 1) (source_columns o) true) (other ++ (map Goes ms ++ Ends l ∷ []))
    onto other (inl e) x = rw e.1 x
    onto other (inr e) x = rw e (par_fits p o k h.0, unfresh p.version (p.steps + 1) (source_columns o) true false ms l x)

    put : (other : List Said) → Holds k other → AllFit (behind p.version (p.steps + 1) (source_columns o) true) (par ++ (map Goes ms ++ Ends l ∷ [])) → AllFit (behind p.version (p.steps + 1) (source_columns o) true) (other ++ (map Goes ms ++ Ends l ∷ []))
    put other b x = onto other b (core par a x)

-- ---- lines that keep the version

abbrev pub Keep : List Said → Type 0
Keep [] = Unit {0}
Keep (Second ∷ ys) = ⊥
Keep (y ∷ ys) = Keep ys

keep_steps : (ms : List Middle) (l : End) → Keep (map Goes ms ++ Ends l ∷ [])
keep_steps [] l = tt
keep_steps (m ∷ ms) l = keep_steps ms l

keep_all : (o : Origin) (k : Kind) (par : List Said) (ms : List Middle) (l : End) → Holds k par → Keep (Begins o ∷ (par ++ (map Goes ms ++ Ends l ∷ [])))
keep_all o k par ms l (inl e) = rw e.1 (keep_steps ms l)
keep_all o k par ms l (inr e) = rw e (keep_steps ms l)

-- ---- the other spelling is read

says : OneSaying → (version : ℕ) (line : List ℕ) (p : Spot) (y : Said) → p.version ≡ version → Spells version line y → Fits p y → Says p line y
says one version line p y e s g = (s.0, s.1, s.2, accepts one p y (all_meant p.version (s.0 ∷ s.1)) (subst (λ (n : ℕ). forms.Says y (all_meant n (s.0 ∷ s.1))) (sym e) s.3) g)

spelled : OneSaying → (version : ℕ) (ls : List (List ℕ)) (p : Spot) (ys : List Said) → p.version ≡ version → Keep ys → AreSpelled version ls ys → AllFit p ys → ReadsFrom p ls ys
spelled one version [] p [] e k s a = (a, refl)
spelled one version [] p (y ∷ ys) e k s a = absurd s
spelled one version (line ∷ ls) p [] e k s a = absurd s
spelled one version (line ∷ ls) p (Second ∷ ys) e k s a = absurd k
spelled one version (line ∷ ls) p (Begins o ∷ ys) e k s a = inr (Begins o, ys, says one version line p (Begins o) e s.0 a.0, spelled one version ls (next p (Begins o)) ys e k s.1 a.1, refl)
spelled one version (line ∷ ls) p (Par x ∷ ys) e k s a = inr (Par x, ys, says one version line p (Par x) e s.0 a.0, spelled one version ls (next p (Par x)) ys e k s.1 a.1, refl)
spelled one version (line ∷ ls) p (Goes m ∷ ys) e k s a = inr (Goes m, ys, says one version line p (Goes m) e s.0 a.0, spelled one version ls (next p (Goes m)) ys e k s.1 a.1, refl)
spelled one version (line ∷ ls) p (Ends l ∷ ys) e k s a = inr (Ends l, ys, says one version line p (Ends l) e s.0 a.0, spelled one version ls (next p (Ends l)) ys e k s.1 a.1, refl)

again_from : OneSaying → (text other : List ℕ) (p : Plan) (ys zs : List Said) → ReadsFrom start (lines text) ys → AreOf p ys → AreOf p zs → AreSpelled p.version (lines other) zs → ReadsFrom start (lines other) zs
again_from one text other p ys zs r a b s = elim a.2 [
  | inl x ↦ elim b.2 [
    | inl y ↦
        let old = rw (a.4, x.1) at (all_fit (lines text) start ys r) in
        let new = other_par start p.origin p.kind a.1 b.1 p.middles p.last a.3 b.3 old in
        let spell = rw (b.4, y.1) at s in
        rw (b.4, y.1) (spelled one p.version (lines other) start _ (sym x.0) (keep_all p.origin p.kind b.1 p.middles p.last b.3) spell new)
    | inr y ↦ let bad : 1 ≡ 2 = sym x.0 ∙ y.0 in absurd (omega (arith, bad))
  ]
  | inr x ↦ elim b.2 [
    | inl y ↦ let bad : 1 ≡ 2 = sym y.0 ∙ x.0 in absurd (omega (arith, bad))
    | inr y ↦
        let old = rw (a.4, x.1) at (all_fit (lines text) start ys r) in
        let new = other_par (next start Second) p.origin p.kind a.1 b.1 p.middles p.last a.3 b.3 old.1 in
        let spell = rw (b.4, y.1) at s in
        rw (b.4, y.1) (second (lines other) (sym x.0) old.0 spell new)
  ]
]
  where
    second : (ls : List (List ℕ)) → 2 ≡ p.version → Fits start Second → AreSpelled p.version ls (Second ∷ Begins p.origin ∷ (b.1 ++ (map Goes p.middles ++ Ends p.last ∷ [])))
        → AllFit (next start Second) (Begins p.origin ∷ (b.1 ++ (map Goes p.middles ++ Ends p.last ∷ []))) → ReadsFrom start ls (Second ∷ Begins p.origin ∷ (b.1 ++ (map Goes p.middles ++ Ends p.last ∷ [])))
    second [] e g t h = absurd t
    second (line ∷ ls) e g t h = inr (Second, _, says one 1 line start Second refl t.0 g, spelled one p.version ls (next start Second) _ e (keep_all p.origin p.kind b.1 p.middles p.last b.3) t.1 h, refl)

pub again : OneSaying → (text other : List ℕ) (p : Plan) (ys : List Said) → Reads text p → AreOf p ys → AreSpelled p.version (lines other) ys → Reads other p
again one text other p ys r a s = (ys, again_from one text other p r.0 ys r.1 r.2 a s, a)

-- ---- some line says each step

one_sayable : (version : ℕ) (line : List ℕ) (p : Spot) (y : Said) → p.version ≡ version → Says p line y → IsSayable version y
one_sayable version line p y e s = (line, (s.0, s.1, s.2, subst (λ (n : ℕ). forms.Says y (all_meant n (s.0 ∷ s.1))) e s.3.0.0))

and_more : (version : ℕ) (line : List ℕ) (p : Spot) (y : Said) (more : List Said) → p.version ≡ version → Says p line y → Keep (y ∷ more) → ((next p y).version ≡ version → Keep more → AreSayable version more) → AreSayable version (y ∷ more)
and_more version line p Second more e s k again = absurd k
and_more version line p (Begins o) more e s k again = (one_sayable version line p (Begins o) e s, again e k)
and_more version line p (Par x) more e s k again = (one_sayable version line p (Par x) e s, again e k)
and_more version line p (Goes m) more e s k again = (one_sayable version line p (Goes m) e s, again e k)
and_more version line p (Ends l) more e s k again = (one_sayable version line p (Ends l) e s, again e k)

sayable : (version : ℕ) (ls : List (List ℕ)) (p : Spot) (ys : List Said) → p.version ≡ version → Keep ys → ReadsFrom p ls ys → AreSayable version ys
sayable version [] p ys e k r = rw r.1 tt
sayable version (line ∷ ls) p ys e k r = elim r [
  | inl h ↦ sayable version ls p ys e k h.1
  | inr h ↦ rw h.4 (and_more version line p h.0 h.1 e h.2 (rw h.4 at k) (λ q keep. sayable version ls (next p h.0) h.1 q keep h.3))
]

-- what stands behind the first line of version 2
behind_second : (ls : List (List ℕ)) (p : Spot) (ys : List Said) → ReadsFrom p ls (Second ∷ ys) → (q : Spot) × (rest : List (List ℕ)) × (q.version ≡ 2) × ReadsFrom q rest ys
behind_second [] p ys r = let bad = r.1 in cc bad
behind_second (line ∷ ls) p ys r = elim r [
  | inl h ↦ behind_second ls p ys h.1
  | inr h ↦
      let same : Second ≡ h.0 = cc h.4 in
      let tail : ys ≡ h.1 = cc h.4 in
      (next p h.0, ls, ap (λ (y : Said). (next p y).version) (sym same), rw tail h.3)
]

without_par : (version : ℕ) (k : Kind) (par : List Said) (ys : List Said) → Holds k par → AreSayable version (par ++ ys) → AreSayable version ys
without_par version k par ys (inl e) s = rw e.1 at s
without_par version k par ys (inr e) s = (rw e at s).1

pub each : (text : List ℕ) (p : Plan) → Reads text p → AreSayable p.version (steps_of p)
each text p r = elim r.2.2 [
  | inl x ↦ part (sayable p.version (lines text) start _ (sym x.0) (keep_all p.origin p.kind r.2.1 p.middles p.last r.2.3) (rw (r.2.4, x.1) at r.1))
  | inr x ↦
      let b = behind_second (lines text) start _ (rw (r.2.4, x.1) at r.1) in
      part (sayable p.version b.1 b.0 _ (b.2 ∙ sym x.0) (keep_all p.origin p.kind r.2.1 p.middles p.last r.2.3) b.3)
]
  where
    part : AreSayable p.version (Begins p.origin ∷ (r.2.1 ++ (map Goes p.middles ++ Ends p.last ∷ []))) → AreSayable p.version (steps_of p)
    part s = (s.0, without_par p.version p.kind r.2.1 (map Goes p.middles ++ Ends p.last ∷ []) r.2.3 s.1)
