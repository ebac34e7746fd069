-- Each text reads as a plan or is refused, and just one of them.
use Rattle.std.proofs.Common.{◌≡◌, ◌∷◌, ◌++◌, ◌∙◌, ◌⊎◌, sym, refl, ap, subst, inl, inr, ℕ, suc, List, [], map, append_assoc, append-nil, Option, Some, None}
use Rattle.std.specs.Prelude.{◌≢◌}
use Rattle.std.specs.Str.Lines.{lines}
use Rattle.pipe_text.specs.declared.line.LineFault.{LineFault}
use Rattle.pipe_text.specs.declared.line.LineFault.TheVariants as faults
use Rattle.pipe_text.specs.Token.{Lex}
use Rattle.pipe_text.specs.Line.{ReadsAs}
use Rattle.pipe_text.specs.Line as line_specs
use Rattle.pipe_tokens.specs.Meaning.{all_meant}
use Rattle.pipe_expr.specs.declared.token.Token.{Token}
use Rattle.pipe_steps.specs.declared.source.Kind.{Kind}
use Rattle.pipe_steps.specs.Said.{Origin, Middle, End, Said, Second, Begins, Par, Goes, Ends}
use Rattle.pipe_checks.specs.declared.fault.Fault.{Fault}
use Rattle.pipe_checks.specs.Places.{Spot, Accepts, Refuses, next, rank, start}
use Rattle.pipe_checks.specs.Laws as place_specs
use Rattle.pipe_program.specs.Plans.{Plan, AreOf, Holds, Opens}
use Rattle.pipe_program.specs.Parts.{Parts, no_parts, whole, with_line}
use Rattle.pipe_program.specs.Reading.{Says, ReadsFrom, RefusedFrom, RefusesLine, AreSaid, Reads, IsRefusedText, IsSettled, IsUnique, early}
use Rattle.pipe_program.proofs.Order.{Ordered, admitted, ended_whole, not_ended, nothing_yet, one_more}

-- the laws of the layers below
pub record Laws : Type 0 where
  pub line_settled : (line : List ℕ) → line_specs.IsSettled line
  pub line_unique : (line : List ℕ) → line_specs.IsUnique line
  pub place_settled : (p : Spot) (ts : List Token) → place_specs.IsSettled p ts
  pub place_unique : (p : Spot) (ts : List Token) → place_specs.IsUnique p ts

-- ---- a reading or a refusal

abbrev pub Goes_on : Spot → ℕ → List (List ℕ) → List Said → Type 0
Goes_on p n ls before = ((ys : List Said) × (w : Plan) × ReadsFrom p ls ys × AreOf w (before ++ ys)) ⊎ ((at : ℕ) × (kind : ℕ) × RefusedFrom p n ls at kind)

ends : (p : Spot) (n : ℕ) (d : Parts) (before : List Said) (o : Option Plan) → whole d ≡ o → Ordered p d before → Goes_on p n [] before
ends p n d before (Some w) h o = let e = ended_whole p d before w o h in inl ([], w, (e.0, refl), rw (append-nil before) e.1)
ends p n d before None h o = inr (n, 13, (not_ended p d before o h, refl, refl))

silent : (p : Spot) (n : ℕ) (line : List ℕ) (ls : List (List ℕ)) (before : List Said) → ReadsAs line [] → Goes_on p (suc n) ls before → Goes_on p n (line ∷ ls) before
silent p n line ls before r g = elim g [
  | inl h ↦ inl (h.0, h.1, inl (r, h.2), h.3)
  | inr h ↦ inr (h.0, h.1, inr (inl (r, h.2)))
]

spoken : (p : Spot) (n : ℕ) (line : List ℕ) (ls : List (List ℕ)) (before : List Said) (y : Said) → Says p line y → Goes_on (next p y) (suc n) ls (before ++ y ∷ []) → Goes_on p n (line ∷ ls) before
spoken p n line ls before y s g = elim g [
  | inl h ↦ inl (y ∷ h.0, h.1, inr (y, h.0, s, h.2, refl), rw (append_assoc before (y ∷ []) h.0) at h.3)
  | inr h ↦ inr (h.0, h.1, inr (inr (y, s, h.2)))
]

-- from any place after these lines
abbrev Again : List (List ℕ) → Type 0
Again ls = (p : Spot) (n : ℕ) (d : Parts) (before : List Said) → Ordered p d before → Goes_on p n ls before

by_tokens : (p : Spot) (n : ℕ) (line : List ℕ) (ls : List (List ℕ)) (d : Parts) (before : List Said) (u : Lex) (us : List Lex) → Again ls → Ordered p d before → ReadsAs line (u ∷ us) → place_specs.IsSettled p (all_meant p.version (u ∷ us)) → Goes_on p n (line ∷ ls) before
by_tokens p n line ls d before u us again o r (inl (y, a)) =
    let s : Says p line y = (u, us, r, a) in
    spoken p n line ls before y s (again (next p y) (suc n) (with_line d y) (before ++ y ∷ []) (one_more p d before y o (admitted p line y s)))
by_tokens p n line ls d before u us again o r (inr (k, f)) = inr (n, rank k, inl (refl, inr (u, us, k, r, f, refl)))

by_list : Laws → (p : Spot) (n : ℕ) (line : List ℕ) (ls : List (List ℕ)) (d : Parts) (before : List Said) (ts : List Lex) → Again ls → Ordered p d before → ReadsAs line ts → Goes_on p n (line ∷ ls) before
by_list laws p n line ls d before [] again o r = silent p n line ls before r (again p (suc n) d before o)
by_list laws p n line ls d before (u ∷ us) again o r = by_tokens p n line ls d before u us again o r (laws.place_settled p (all_meant p.version (u ∷ us)))

by_line : Laws → (p : Spot) (n : ℕ) (line : List ℕ) (ls : List (List ℕ)) (d : Parts) (before : List Said) → Again ls → Ordered p d before → line_specs.IsSettled line → Goes_on p n (line ∷ ls) before
by_line laws p n line ls d before again o (inl (ts, r)) = by_list laws p n line ls d before ts again o r
by_line laws p n line ls d before again o (inr (e, real, f)) = inr (n, early e, inl (refl, inl (e, real, f, refl)))

walk : Laws → (ls : List (List ℕ)) → Again ls
walk laws [] p n d before o = ends p n d before (whole d) refl o
walk laws (line ∷ ls) p n d before o = by_line laws p n line ls d before (walk laws ls) o (laws.line_settled line)

pub settled : Laws → (text : List ℕ) → IsSettled text
settled laws text = elim (walk laws (lines text) start 1 no_parts [] nothing_yet) [
  | inl h ↦ inl (h.1, (h.0, h.2, h.3))
  | inr h ↦ inr (h.0, h.1, h.2)
]

-- ---- a line has one answer

pub silent_says : Laws → (p : Spot) (line : List ℕ) (y : Said) → ReadsAs line [] → Says p line y → ⊥
silent_says laws p line y a s = let e = (laws.line_unique line).reading [] (s.0 ∷ s.1) a s.2 in cc e

pub same_saying : Laws → (p : Spot) (line : List ℕ) (x y : Said) → Says p line x → Says p line y → x ≡ y
same_saying laws p line x y a b =
    let e = (laws.line_unique line).reading (b.0 ∷ b.1) (a.0 ∷ a.1) b.2 a.2 in
    let b' : Accepts p y (all_meant p.version (a.0 ∷ a.1)) = subst (λ (us : List Lex). Accepts p y (all_meant p.version us)) e b.3 in
    (laws.place_unique p (all_meant p.version (a.0 ∷ a.1))).accepted x y a.3 b'

silent_refuses : Laws → (p : Spot) (line : List ℕ) (kind : ℕ) → ReadsAs line [] → RefusesLine p line kind → ⊥
silent_refuses laws p line kind a r = elim r [
  | inl h ↦ (laws.line_unique line).apart [] h.0 h.1 a h.2
  | inr h ↦ let e = (laws.line_unique line).reading [] (h.0 ∷ h.1) a h.3 in cc e
]

says_refuses : Laws → (p : Spot) (line : List ℕ) (y : Said) (kind : ℕ) → Says p line y → RefusesLine p line kind → ⊥
says_refuses laws p line y kind s r = elim r [
  | inl h ↦ (laws.line_unique line).apart (s.0 ∷ s.1) h.0 h.1 s.2 h.2
  | inr h ↦
      let e = (laws.line_unique line).reading (h.0 ∷ h.1) (s.0 ∷ s.1) h.3 s.2 in
      let f : Refuses p h.2 (all_meant p.version (s.0 ∷ s.1)) = subst (λ (us : List Lex). Refuses p h.2 (all_meant p.version us)) e h.4 in
      (laws.place_unique p (all_meant p.version (s.0 ∷ s.1))).apart y h.2 s.3 f
]

same_refusal : Laws → (p : Spot) (line : List ℕ) (kind why : ℕ) → RefusesLine p line kind → RefusesLine p line why → kind ≡ why
same_refusal laws p line kind why a b = elim a [
  | inl h ↦ elim b [
    | inl g ↦ h.3 ∙ ap early ((laws.line_unique line).fault h.0 g.0 h.1 g.1 h.2 g.2) ∙ sym g.3
    | inr g ↦ absurd ((laws.line_unique line).apart (g.0 ∷ g.1) h.0 h.1 g.3 h.2)
  ]
  | inr h ↦ elim b [
    | inl g ↦ absurd ((laws.line_unique line).apart (h.0 ∷ h.1) g.0 g.1 h.3 g.2)
    | inr g ↦
        let e = (laws.line_unique line).reading (g.0 ∷ g.1) (h.0 ∷ h.1) g.3 h.3 in
        let f : Refuses p g.2 (all_meant p.version (h.0 ∷ h.1)) = subst (λ (us : List Lex). Refuses p g.2 (all_meant p.version us)) e g.4 in
        h.5 ∙ ap rank ((laws.place_unique p (all_meant p.version (h.0 ∷ h.1))).refused h.2 g.2 h.4 f) ∙ sym g.5
  ]
]

-- ---- the lines have one answer

one_list : Laws → (ls : List (List ℕ)) (p : Spot) (ys zs : List Said) → ReadsFrom p ls ys → ReadsFrom p ls zs → ys ≡ zs
one_list laws [] p ys zs a b = a.1 ∙ sym b.1
one_list laws (line ∷ ls) p ys zs a b = elim a [
  | inl h ↦ elim b [
    | inl g ↦ one_list laws ls p ys zs h.1 g.1
    | inr g ↦ absurd (silent_says laws p line g.0 h.0 g.2)
  ]
  | inr h ↦ elim b [
    | inl g ↦ absurd (silent_says laws p line h.0 g.0 h.2)
    | inr g ↦
        let same = same_saying laws p line g.0 h.0 g.2 h.2 in
        let more : ReadsFrom (next p h.0) ls g.1 = subst (λ (y : Said). ReadsFrom (next p y) ls g.1) same g.3 in
        h.4 ∙ ap (λ (x : List Said). h.0 ∷ x) (one_list laws ls (next p h.0) h.1 g.1 h.3 more) ∙ ap (λ (x : Said). x ∷ g.1) (sym same) ∙ sym g.4
  ]
]

-- a reading and a refusal at once
both : Laws → (ls : List (List ℕ)) (p : Spot) (n : ℕ) (ys : List Said) (at kind : ℕ) → ReadsFrom p ls ys → RefusedFrom p n ls at kind → ⊥
both laws [] p n ys at kind a b = let bad = sym a.0 ∙ b.0 in cc bad
both laws (line ∷ ls) p n ys at kind a b = elim a [
  | inl h ↦ elim b [
    | inl g ↦ silent_refuses laws p line kind h.0 g.1
    | inr g ↦ elim g [
      | inl f ↦ both laws ls p (suc n) ys at kind h.1 f.1
      | inr f ↦ silent_says laws p line f.0 h.0 f.1
    ]
  ]
  | inr h ↦ elim b [
    | inl g ↦ says_refuses laws p line h.0 kind h.2 g.1
    | inr g ↦ elim g [
      | inl f ↦ silent_says laws p line h.0 f.0 h.2
      | inr f ↦
          let same = same_saying laws p line f.0 h.0 f.1 h.2 in
          let more : RefusedFrom (next p h.0) (suc n) ls at kind = subst (λ (y : Said). RefusedFrom (next p y) (suc n) ls at kind) same f.2 in
          both laws ls (next p h.0) (suc n) h.1 at kind h.3 more
    ]
  ]
]

one_refusal : Laws → (ls : List (List ℕ)) (p : Spot) (n at kind line why : ℕ) → RefusedFrom p n ls at kind → RefusedFrom p n ls line why → (at ≡ line) × (kind ≡ why)
one_refusal laws [] p n at kind line why a b = (a.1 ∙ sym b.1, a.2 ∙ sym b.2)
one_refusal laws (l ∷ ls) p n at kind line why a b = elim a [
  | inl h ↦ elim b [
    | inl g ↦ (h.0 ∙ sym g.0, same_refusal laws p l kind why h.1 g.1)
    | inr g ↦ elim g [
      | inl f ↦ absurd (silent_refuses laws p l kind f.0 h.1)
      | inr f ↦ absurd (says_refuses laws p l f.0 kind f.1 h.1)
    ]
  ]
  | inr h ↦ elim b [
    | inl g ↦ elim h [
      | inl f ↦ absurd (silent_refuses laws p l why f.0 g.1)
      | inr f ↦ absurd (says_refuses laws p l f.0 why f.1 g.1)
    ]
    | inr g ↦ elim h [
      | inl f ↦ elim g [
        | inl e ↦ one_refusal laws ls p (suc n) at kind line why f.1 e.1
        | inr e ↦ absurd (silent_says laws p l e.0 f.0 e.1)
      ]
      | inr f ↦ elim g [
        | inl e ↦ absurd (silent_says laws p l f.0 e.0 f.1)
        | inr e ↦
            let same = same_saying laws p l e.0 f.0 e.1 f.1 in
            let more : RefusedFrom (next p f.0) (suc n) ls line why = subst (λ (y : Said). RefusedFrom (next p y) (suc n) ls line why) same e.2 in
            one_refusal laws ls (next p f.0) (suc n) at kind line why f.2 more
      ]
    ]
  ]
]

-- ---- lines say one plan

one_tail : (ms ns : List Middle) (l m : End) → map Goes ms ++ Ends l ∷ [] ≡ map Goes ns ++ Ends m ∷ [] → (ms ≡ ns) × (l ≡ m)
one_tail [] [] l m h = (refl, cc h)
one_tail [] (n ∷ ns) l m h = cc h
one_tail (x ∷ ms) [] l m h = cc h
one_tail (x ∷ ms) (n ∷ ns) l m h =
    let same : x ≡ n = cc h in
    let rest : map Goes ms ++ Ends l ∷ [] ≡ map Goes ns ++ Ends m ∷ [] = cc h in
    let t = one_tail ms ns l m rest in
    (cc (same, t.0), t.1)

no_par : (ms : List Middle) (l : End) (k : Kind) (ys : List Said) → map Goes ms ++ Ends l ∷ [] ≡ Par k ∷ ys → ⊥
no_par [] l k ys h = cc h
no_par (m ∷ ms) l k ys h = cc h

one_body : (j k : Kind) (pars rest : List Said) (ms ns : List Middle) (l m : End) → Holds j pars → Holds k rest
    → pars ++ (map Goes ms ++ Ends l ∷ []) ≡ rest ++ (map Goes ns ++ Ends m ∷ []) → (j ≡ k) × (ms ≡ ns) × (l ≡ m)
one_body j k pars rest ms ns l m a b h = elim a [
  | inl x ↦ elim b [
    | inl y ↦ let t = one_tail ms ns l m (rw (x.1, y.1) at h) in (x.0 ∙ sym y.0, t.0, t.1)
    | inr y ↦ absurd (no_par ms l k (map Goes ns ++ Ends m ∷ []) (rw (x.1, y) at h))
  ]
  | inr x ↦ elim b [
    | inl y ↦ absurd (no_par ns m j (map Goes ms ++ Ends l ∷ []) (sym (rw (x, y.1) at h)))
    | inr y ↦
        let both : Par j ∷ (map Goes ms ++ Ends l ∷ []) ≡ Par k ∷ (map Goes ns ++ Ends m ∷ []) = rw (x, y) at h in
        let same : j ≡ k = cc both in
        let rest : map Goes ms ++ Ends l ∷ [] ≡ map Goes ns ++ Ends m ∷ [] = cc both in
        let t = one_tail ms ns l m rest in
        (same, t.0, t.1)
  ]
]

one_head : (v w : ℕ) (head other : List Said) (o q : Origin) (ys zs : List Said) → Opens v head → Opens w other → head ++ Begins o ∷ ys ≡ other ++ Begins q ∷ zs → (v ≡ w) × (o ≡ q) × (ys ≡ zs)
one_head v w head other o q ys zs a b h = elim a [
  | inl x ↦ elim b [
    | inl y ↦ let e : Begins o ∷ ys ≡ Begins q ∷ zs = rw (x.1, y.1) at h in (x.0 ∙ sym y.0, cc e, cc e)
    | inr y ↦ let e : Begins o ∷ ys ≡ Second ∷ Begins q ∷ zs = rw (x.1, y.1) at h in cc e
  ]
  | inr x ↦ elim b [
    | inl y ↦ let e : Second ∷ Begins o ∷ ys ≡ Begins q ∷ zs = rw (x.1, y.1) at h in cc e
    | inr y ↦ let e : Second ∷ Begins o ∷ ys ≡ Second ∷ Begins q ∷ zs = rw (x.1, y.1) at h in (x.0 ∙ sym y.0, cc e, cc e)
  ]
]

same_plan : (p q : Plan) → p.version ≡ q.version → p.origin ≡ q.origin → p.kind ≡ q.kind → p.middles ≡ q.middles → p.last ≡ q.last → p ≡ q
same_plan p q a b c d e =
    ap (λ (x : ℕ). record p { version = x }) a
    ∙ ap (λ (x : Origin). record p { version = q.version; origin = x }) b
    ∙ ap (λ (x : Kind). record p { version = q.version; origin = q.origin; kind = x }) c
    ∙ ap (λ (x : List Middle). record q { middles = x; last = p.last }) d
    ∙ ap (λ (x : End). record q { last = x }) e

one_plan : (p q : Plan) (ys : List Said) → AreOf p ys → AreOf q ys → p ≡ q
one_plan p q ys a b =
    let h = one_head p.version q.version a.0 b.0 p.origin q.origin _ _ a.2 b.2 (sym a.4 ∙ b.4) in
    let t = one_body p.kind q.kind a.1 b.1 p.middles q.middles p.last q.last a.3 b.3 h.2 in
    same_plan p q h.0 h.1 t.0 t.1 t.2

pub unique : Laws → (text : List ℕ) → IsUnique text
unique laws text = record {
  reading = λ p q a b. one_plan p q b.0 (rw (one_list laws (lines text) start a.0 b.0 a.1 b.1) at a.2) b.2;
  refusal = λ at kind line why a b. one_refusal laws (lines text) start 1 at kind line why a b;
  apart = λ p at kind a b. both laws (lines text) start 1 a.0 at kind a.1 b;
}
