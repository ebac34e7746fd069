-- The round trip: what is printed of a plan reads as it.
use Rattle.std.proofs.Common.{◌≡◌, ◌≤◌, ◌==◌, ◌∷◌, ◌++◌, ◌∙◌, ◌⊎◌, sym, refl, ap, subst, inl, inr, ℕ, pos, List, [], length, map, Bool, true, false, arith}
use Rattle.std.specs.Prelude.{IfOk, MatchBool, Result, Ok, Err, Vec, codes}
use Rattle.std.specs.Global.{Global}
use Rattle.std.specs.Str.{chars}
use Rattle.std.specs.Str.Lines.{lines}
use Rattle.std.specs.List.{list_all}
use Rattle.std.proofs.lemmas.List.{length-map}
use Rattle.pipe_text.specs.Token.{Lex, Word, IsLex, Lexes}
use Rattle.pipe_text.specs.Line.{AreUtf8, ReadsAs, is_quiet}
use Rattle.pipe_tokens.specs.Meaning.{all_meant, meant}
use Rattle.pipe_expr.specs.declared.token.Token.{Token}
use Rattle.pipe_expr.specs.declared.token.Verb.TheVariants as v
use Rattle.pipe_steps.specs.declared.source.Kind.{Kind}
use Rattle.pipe_steps.specs.declared.source.Kind.TheVariants as kinds
use Rattle.pipe_steps.specs.Said.{Middle, End, Said, Second, Begins, Par, Goes, Ends}
use Rattle.pipe_steps.specs.Forms.{Says}
use Rattle.pipe_program.specs.Plans.{Plan, AreOf, Holds, Opens}
use Rattle.pipe_program.specs.Reading.{IsReadable, Reads}
use Rattle.pipe_program.specs.Spelling.{AreSayable, AreSpelled, IsSayable, Spells, steps_of, version_at}
use Rattle.pipe_print.specs.Items.{Item, spaced}
use Rattle.pipe_print.specs.Items as items
use Rattle.pipe_print.specs.Lines.{canonical, heading, kind_text, line_of, line_text, parts_items, written_text}
use Rattle.pipe_print.proofs.Tokens.{AreMade, Canonical, lexes, toks}
use Rattle.pipe_print.proofs.Numbers.{digits_mean}
use Rattle.pipe_print.proofs.Canon.{line_items, said}
use Rattle.pipe_print.proofs.Lexing.{Stops, clean, line_clean, line_reads}
use Rattle.pipe_print.proofs.Feeds.{AllClean, lines_ended}

-- the laws of the layers below
pub record Laws : Type 0 where
  pub stops : Stops
  pub utf8 : (line : List ℕ) (ts : List Lex) → ReadsAs line ts → AreUtf8 ts
  pub each : (text : List ℕ) (p : Plan) → Reads text p → AreSayable p.version (steps_of p)
  pub again : (text other : List ℕ) (p : Plan) (ys : List Said) → Reads text p → AreOf p ys → AreSpelled p.version (lines other) ys → Reads other p

-- ---- the tokens of a line are made of its bytes

made : (n : ℕ) (line : List ℕ) (ts : List Lex) → Lexes line ts → AreUtf8 ts → AreMade n (all_meant n ts)
made n line [] h u = tt
made n line (t ∷ ts) h u = ((t, h.4, u.0, refl), made n h.1 ts h.6 u.1)

made_of : Laws → (n : ℕ) (line : List ℕ) (t : Lex) (ts : List Lex) → ReadsAs line (t ∷ ts) → AreMade n (all_meant n (t ∷ ts))
made_of laws n line t ts r = go (is_quiet line) r.tokens
  where
    go : (q : Bool) → MatchBool q (t ∷ ts ≡ []) (Lexes line (t ∷ ts)) → AreMade n (all_meant n (t ∷ ts))
    go true e = cc e
    go false h = made n line (t ∷ ts) h (laws.utf8 line (t ∷ ts) r)

-- what some line says has a canonical line
canon : Laws → (n : ℕ) (y : Said) → IsSayable n y → Canonical (Says y) n (line_items y) 512
canon laws n y h =
    let s = h.1 in
    let few = s.2.few in
    said n y (all_meant n (s.0 ∷ s.1)) s.3 (made_of laws n h.0 s.0 s.1 s.2) (omega (arith, few, length-map (s.0 ∷ s.1) (meant n)))

second : Canonical (Says Second) 1 (line_items Second) 512
second = record {
  reads = inl (v.Pipeline, chars (codes "pipeline"), toks 1 (items.Int (pos 2) ∷ []), ([], (refl, refl), ap (λ (x : Token). x ∷ []) (digits_mean 1 2 (omega arith))), refl);
  good = (refl, (omega arith, tt));
  few = omega arith;
}

par : (n : ℕ) (k : Kind) → Canonical (Says (Par k)) n (line_items (Par k)) 512
par n kinds.Array = record {
  reads = inl (v.Par, chars (codes "par"), _, (kinds.Array, toks n (items.Fixed (codes "array") ∷ []), [], (chars (codes "array"), refl), (refl, refl), refl), refl);
  good = (refl, (refl, tt));
  few = omega arith;
}
par n kinds.Vector = record {
  reads = inl (v.Par, chars (codes "par"), _, (kinds.Vector, toks n (items.Fixed (codes "vector") ∷ []), [], (chars (codes "vector"), refl), (refl, refl), refl), refl);
  good = (refl, (refl, tt));
  few = omega arith;
}

-- ---- lines

abbrev AllCanon : ℕ → List Said → Type 0
AllCanon n [] = Unit {0}
AllCanon n (y ∷ ys) = Canonical (Says y) (version_at n y) (line_items y) 512 × AllCanon n ys

-- the line of version 2 is written alike in both versions
same_text : (n : ℕ) (y : Said) → line_text (version_at n y) y ≡ line_text n y
same_text n Second = refl
same_text n (Begins o) = refl
same_text n (Par k) = refl
same_text n (Goes m) = refl
same_text n (Ends l) = refl

spells : Laws → (n : ℕ) (y : Said) → Canonical (Says y) n (line_items y) 512 → Spells n (line_text n y) y
spells laws n y c =
    let w = (line_of y).0 in
    let is = parts_items (line_of y).1 in
    (Word w, lexes n is, line_reads laws.stops n w is c.good c.few, c.reads)

all_spelled : Laws → (n : ℕ) (ys : List Said) → AllCanon n ys → AreSpelled n (map (line_text n) ys) ys
all_spelled laws n [] h = tt
all_spelled laws n (y ∷ ys) h = (rw (same_text n y) at (spells laws (version_at n y) y h.0), all_spelled laws n ys h.1)

all_clean : (n : ℕ) (ys : List Said) → AllCanon n ys → AllClean n ys
all_clean n [] h = tt
all_clean n (y ∷ ys) h = (rw (same_text n y) at (line_clean (version_at n y) (line_of y).0 (parts_items (line_of y).1) h.0.good), all_clean n ys h.1)

-- ---- the plan

middles : Laws → (n : ℕ) (ms : List Middle) (l : End) → AreSayable n (map Goes ms ++ Ends l ∷ []) → AllCanon n (map Goes ms ++ Ends l ∷ [])
middles laws n [] l s = (canon laws n (Ends l) s.0, tt)
middles laws n (m ∷ ms) l s = (canon laws n (Goes m) s.0, middles laws n ms l s.1)

abbrev body_lines : Plan → List Said
body_lines p = Begins p.origin ∷ Par p.kind ∷ (map Goes p.middles ++ Ends p.last ∷ [])

body : Laws → (p : Plan) → AreSayable p.version (steps_of p) → AllCanon p.version (body_lines p)
body laws p s = (canon laws p.version (Begins p.origin) s.0, (par p.version p.kind, middles laws p.version p.middles p.last s.1))

all_canon : Laws → (p : Plan) (head : List Said) → Opens p.version head → AreSayable p.version (steps_of p) → AllCanon p.version (canonical p)
all_canon laws p head (inl e) s = subst (λ (n : ℕ). AllCanon n (heading n ++ body_lines p)) (sym e.0) (subst (λ (n : ℕ). AllCanon n (body_lines p)) e.0 (body laws p s))
all_canon laws p head (inr e) s = subst (λ (n : ℕ). AllCanon n (heading n ++ body_lines p)) (sym e.0) (second, subst (λ (n : ℕ). AllCanon n (body_lines p)) e.0 (body laws p s))

opened : (version : ℕ) (head : List Said) → Opens version head → Opens version (heading version)
opened version head (inl e) = rw e.0 (inl (refl, refl))
opened version head (inr e) = rw e.0 (inr (refl, refl))

pub reads : Laws → (p : Plan) → IsReadable p → Reads (written_text p) p
reads laws p h =
    let all = all_canon laws p h.1.2.0 h.1.2.2 (laws.each h.0 p h.1) in
    let are : AreOf p (canonical p) = (heading p.version, Par p.kind ∷ [], opened p.version h.1.2.0 h.1.2.2, inr refl, refl) in
    laws.again h.0 (written_text p) p (canonical p) h.1 are (rw (lines_ended p.version (canonical p) (all_clean p.version (canonical p) all)) (all_spelled laws p.version (canonical p) all))

pub ok_reads : {E : Type 0} (r : Result (Vec ℕ Global) E) (text : List ℕ) (p : Plan) → IfOk r (λ v. v.items ≡ text) → Reads text p → IfOk r (λ v. Reads v.items p)
ok_reads (Ok x) text p e h = rw e h
ok_reads (Err x) text p e h = tt
