-- The token at the front is the longest, and the only longest.
use Rattle.std.proofs.Common.{◌≡◌, ◌∷◌, ◌++◌, ◌∙◌, ◌==◌, sym, refl, ap, inl, inr, ℕ, List, [], Option, Some, None, arith, append_assoc, append-nil, true, false, eqb→eq, slice_get}
use Rattle.std.specs.List.{list_all}
use Rattle.std.proofs.lemmas.Bool.{cases_Bool}
use Rattle.pipe_text.specs.declared.lexeme.Symbol.{Symbol}
use Rattle.pipe_text.specs.Token.{Lex, Word, Quoted, Digits, Text, Sign, IsLex, IsLongest, is_blank, is_body, is_digit, is_letter, is_name, is_word, spelled, symbol_text}
use Rattle.pipe_text.specs.Reading.{behind, body_at, first, first_symbol, is_next, named, quoted_at, run, signed, symbols, texted}
use Rattle.pipe_text.proofs.Bytes.{Kind, Letter, Digit, Back, Mark, Other, body_back, body_found, cons_inj, digit_no_letter, kind, run_good, run_most, run_splits, run_until, some_inj}
use Rattle.pipe_text.proofs.Symbols.{symbol_cons, symbol_same, symbol_stands, symbol_there}

abbrev lex_kind : Lex → Kind
lex_kind (Word w) = Letter
lex_kind (Quoted q) = Back
lex_kind (Digits d) = Digit
lex_kind (Text b) = Mark
lex_kind (Sign k) = Other

-- the first character of a token tells what it is
head_kind : (u : Lex) (c : ℕ) (r more : List ℕ) → IsLex u → c ∷ r ≡ spelled u ++ more → kind c ≡ lex_kind u
head_kind (Word []) c r more l e = absurd l
head_kind (Word (d ∷ w)) c r more l e = let h = cons_inj c d r (w ++ more) e in rw (h.0, l.0) refl
head_kind (Quoted q) c r more l e = let h = cons_inj c 96 r ((q ++ 96 ∷ []) ++ more) e in rw h.0 refl
head_kind (Digits []) c r more l e = absurd l
head_kind (Digits (d ∷ w)) c r more l e = let h = cons_inj c d r (w ++ more) e in rw (h.0, digit_no_letter d l.0, l.0) refl
head_kind (Text b) c r more l e = let h = cons_inj c 34 r ((b ++ 34 ∷ []) ++ more) e in rw h.0 refl
head_kind (Sign k) c r more l e =
    let (d, w, is, other, dark) = symbol_cons k in
    let h = cons_inj c d r (w ++ more) (e ∙ ap (λ (x : List ℕ). x ++ more) is) in
    rw h.0 other

-- ---- the token at the front

pub record Fronts (t : Lex) (text : List ℕ) : Type 0 where
  pub good : IsLex t
  pub rest : List ℕ
  pub splits : text ≡ spelled t ++ rest
  pub longest : IsLongest t rest

clash : {Z : Type 0} (c : ℕ) (k j : Kind) → kind c ≡ k → kind c ≡ j → (k ≡ j → ⊥) → Z
clash c k j a b n = absurd (n (sym a ∙ b))

pub word_longest : (c : ℕ) (r rest : List ℕ) → is_letter c ≡ true → r ≡ run is_word r ++ rest → IsLongest (Word (c ∷ run is_word r)) rest
word_longest c r rest l s (Word []) more i e = absurd i
word_longest c r rest l s (Word (d ∷ w)) more i e =
    let h = cons_inj c d (run is_word r ++ rest) (w ++ more) e in
    let q = run_most is_word r w more i.1 (s ∙ h.1) in
    omega (arith, q)
word_longest c r rest l s (Quoted q) more i e = let kc : kind c ≡ Letter = rw l refl in clash c Letter Back kc (head_kind (Quoted q) c _ more i e) (λ x. cc x)
word_longest c r rest l s (Digits d) more i e = let kc : kind c ≡ Letter = rw l refl in clash c Letter Digit kc (head_kind (Digits d) c _ more i e) (λ x. cc x)
word_longest c r rest l s (Text b) more i e = let kc : kind c ≡ Letter = rw l refl in clash c Letter Mark kc (head_kind (Text b) c _ more i e) (λ x. cc x)
word_longest c r rest l s (Sign k) more i e = let kc : kind c ≡ Letter = rw l refl in clash c Letter Other kc (head_kind (Sign k) c _ more i e) (λ x. cc x)

pub digits_longest : (c : ℕ) (r rest : List ℕ) → is_digit c ≡ true → r ≡ run is_digit r ++ rest → IsLongest (Digits (c ∷ run is_digit r)) rest
digits_longest c r rest l s (Digits []) more i e = absurd i
digits_longest c r rest l s (Digits (d ∷ w)) more i e =
    let h = cons_inj c d (run is_digit r ++ rest) (w ++ more) e in
    let q = run_most is_digit r w more i.1 (s ∙ h.1) in
    omega (arith, q)
digits_longest c r rest l s (Word d) more i e = let kc : kind c ≡ Digit = rw (digit_no_letter c l, l) refl in clash c Digit Letter kc (head_kind (Word d) c _ more i e) (λ x. cc x)
digits_longest c r rest l s (Quoted q) more i e = let kc : kind c ≡ Digit = rw (digit_no_letter c l, l) refl in clash c Digit Back kc (head_kind (Quoted q) c _ more i e) (λ x. cc x)
digits_longest c r rest l s (Text b) more i e = let kc : kind c ≡ Digit = rw (digit_no_letter c l, l) refl in clash c Digit Mark kc (head_kind (Text b) c _ more i e) (λ x. cc x)
digits_longest c r rest l s (Sign k) more i e = let kc : kind c ≡ Digit = rw (digit_no_letter c l, l) refl in clash c Digit Other kc (head_kind (Sign k) c _ more i e) (λ x. cc x)

pub some_name : (q : List ℕ) → IsLex (Quoted q) → list_all is_name q ≡ true
some_name [] h = absurd h
some_name (d ∷ q) h = h

-- two names that end are one
name_same : (q p x y : List ℕ) → list_all is_name q ≡ true → list_all is_name p ≡ true → q ++ 96 ∷ x ≡ p ++ 96 ∷ y → q ≡ p
name_same q p x y gq gp e = sym (run_until is_name q 96 x gq refl).0 ∙ ap (run is_name) e ∙ (run_until is_name p 96 y gp refl).0

-- two texts that end are one
body_same : (b d x y : List ℕ) → is_body false b ≡ true → is_body false d ≡ true → b ++ 34 ∷ x ≡ d ++ 34 ∷ y → b ≡ d
body_same b d x y gb gd e = some_inj b d (sym (body_back false b x gb) ∙ ap (body_at false) e ∙ body_back false d y gd)

pub quoted_longest : (q rest : List ℕ) → list_all is_name q ≡ true → IsLongest (Quoted q) rest
quoted_longest q rest g (Quoted p) more i e =
    let h = cons_inj 96 96 _ _ e in
    let flat : q ++ 96 ∷ rest ≡ p ++ 96 ∷ more = sym (append_assoc q (96 ∷ []) rest) ∙ h.1 ∙ append_assoc p (96 ∷ []) more in
    let same = name_same q p rest more g (some_name p i) flat in
    rw same (omega arith)
quoted_longest q rest g (Word w) more i e = clash 96 Back Letter refl (head_kind (Word w) 96 _ more i e) (λ x. cc x)
quoted_longest q rest g (Digits d) more i e = clash 96 Back Digit refl (head_kind (Digits d) 96 _ more i e) (λ x. cc x)
quoted_longest q rest g (Text b) more i e = clash 96 Back Mark refl (head_kind (Text b) 96 _ more i e) (λ x. cc x)
quoted_longest q rest g (Sign k) more i e = clash 96 Back Other refl (head_kind (Sign k) 96 _ more i e) (λ x. cc x)

pub text_longest : (b rest : List ℕ) → is_body false b ≡ true → IsLongest (Text b) rest
text_longest b rest g (Text d) more i e =
    let h = cons_inj 34 34 _ _ e in
    let flat : b ++ 34 ∷ rest ≡ d ++ 34 ∷ more = sym (append_assoc b (34 ∷ []) rest) ∙ h.1 ∙ append_assoc d (34 ∷ []) more in
    let same = body_same b d rest more g i flat in
    rw same (omega arith)
text_longest b rest g (Word w) more i e = clash 34 Mark Letter refl (head_kind (Word w) 34 _ more i e) (λ x. cc x)
text_longest b rest g (Digits d) more i e = clash 34 Mark Digit refl (head_kind (Digits d) 34 _ more i e) (λ x. cc x)
text_longest b rest g (Quoted q) more i e = clash 34 Mark Back refl (head_kind (Quoted q) 34 _ more i e) (λ x. cc x)
text_longest b rest g (Sign k) more i e = clash 34 Mark Other refl (head_kind (Sign k) 34 _ more i e) (λ x. cc x)

pub symbol_longest : (c : ℕ) (r rest : List ℕ) (k : Symbol) → kind c ≡ Other → first_symbol symbols c (slice_get r 0) ≡ Some k → c ∷ r ≡ symbol_text k ++ rest → IsLongest (Sign k) rest
symbol_longest c r rest k o f s (Word d) more i e = clash c Other Letter o (head_kind (Word d) c r more i (s ∙ e)) (λ x. cc x)
symbol_longest c r rest k o f s (Quoted d) more i e = clash c Other Back o (head_kind (Quoted d) c r more i (s ∙ e)) (λ x. cc x)
symbol_longest c r rest k o f s (Digits d) more i e = clash c Other Digit o (head_kind (Digits d) c r more i (s ∙ e)) (λ x. cc x)
symbol_longest c r rest k o f s (Text d) more i e = clash c Other Mark o (head_kind (Text d) c r more i (s ∙ e)) (λ x. cc x)
symbol_longest c r rest k o f s (Sign j) more i e =
    let (found, is, less) = symbol_there j c r more (s ∙ e) in
    let same : found ≡ k = some_inj _ _ (sym is ∙ f) in
    rw (← same) less

signed_is : (o : Option Symbol) (t : Lex) → signed o ≡ Some t → (k : Symbol) × (o ≡ Some k) × (Sign k ≡ t)
signed_is None t h = cc h
signed_is (Some k) t h = (k, refl, some_inj _ _ h)

texted_is : (o : Option (List ℕ)) (t : Lex) → texted o ≡ Some t → (b : List ℕ) × (o ≡ Some b) × (Text b ≡ t)
texted_is None t h = cc h
texted_is (Some b) t h = (b, refl, some_inj _ _ h)

quoted_is : (q : List ℕ) (t : Lex) → list_all is_name q ≡ true → named q ≡ Some t → (Quoted q ≡ t) × IsLex (Quoted q)
quoted_is [] t g h = cc h
quoted_is (c ∷ q) t g h = (some_inj _ _ h, g)

next_cons : (xs : List ℕ) (d : ℕ) → is_next (slice_get xs 0) d ≡ true → (more : List ℕ) × (xs ≡ d ∷ more)
next_cons [] d h = cc h
next_cons (c ∷ xs) d h = (xs, ap (λ (x : ℕ). x ∷ xs) (eqb→eq c d (rw h tt)))

quoted_good : (r : List ℕ) (t : Lex) → quoted_at r ≡ Some t → Fronts t (96 ∷ r)
quoted_good r t h = elim (cases_Bool (is_next (slice_get (behind is_name r) 0) 96)) [
  | inl n ↦
      let (more, ends) = next_cons (behind is_name r) 96 n in
      let g = run_good is_name r in
      let (is, good) = quoted_is (run is_name r) t g (rw n at h) in
      let cut : r ≡ run is_name r ++ 96 ∷ more = run_splits is_name r ∙ ap (λ (x : List ℕ). run is_name r ++ x) ends in
      let whole : 96 ∷ r ≡ spelled (Quoted (run is_name r)) ++ more = ap (λ (x : List ℕ). 96 ∷ x) (cut ∙ sym (append_assoc (run is_name r) (96 ∷ []) more)) in
      rw (← is) (record { good = good; rest = more; splits = whole; longest = quoted_longest (run is_name r) more g })
  | inr n ↦ let bad = rw n at h in cc bad
]

text_good : (r : List ℕ) (t : Lex) → texted (body_at false r) ≡ Some t → Fronts t (34 ∷ r)
text_good r t h =
    let (b, found, is) = texted_is (body_at false r) t h in
    let f = body_found false r b found in
    let whole : 34 ∷ r ≡ spelled (Text b) ++ f.more = ap (λ (x : List ℕ). 34 ∷ x) (f.splits ∙ sym (append_assoc b (34 ∷ []) f.more)) in
    rw (← is) (record { good = f.good; rest = f.more; splits = whole; longest = text_longest b f.more f.good })

pub first_good : (c : ℕ) (r : List ℕ) (t : Lex) → first c r ≡ Some t → Fronts t (c ∷ r)
unfolding first
first_good c r t h = elim (cases_Bool (is_letter c)) [
  | inl l ↦
      let s : Word (c ∷ run is_word r) ≡ t = some_inj _ _ (rw l at h) in
      let q = run_splits is_word r in
      rw (← s) (record { good = (l, run_good is_word r); rest = behind is_word r; splits = ap (λ (x : List ℕ). c ∷ x) q; longest = word_longest c r (behind is_word r) l q })
  | inr nl ↦ elim (cases_Bool (is_digit c)) [
    | inl l ↦
        let s : Digits (c ∷ run is_digit r) ≡ t = some_inj _ _ (rw (nl, l) at h) in
        let q = run_splits is_digit r in
        rw (← s) (record { good = (l, run_good is_digit r); rest = behind is_digit r; splits = ap (λ (x : List ℕ). c ∷ x) q; longest = digits_longest c r (behind is_digit r) l q })
    | inr nd ↦ elim (cases_Bool (c == 96)) [
      | inl b ↦ let is : c ≡ 96 = eqb→eq c 96 (rw b tt) in rw is (quoted_good r t (rw (nl, nd, b) at h))
      | inr nb ↦ elim (cases_Bool (c == 34)) [
        | inl m ↦ let is : c ≡ 34 = eqb→eq c 34 (rw m tt) in rw is (text_good r t (rw (nl, nd, nb, m) at h))
        | inr nm ↦
            let s = signed_is (first_symbol symbols c (slice_get r 0)) t (rw (nl, nd, nb, nm) at h) in
            let q = symbol_stands c r s.0 s.1 in
            let o : kind c ≡ Other = rw (nl, nd, nb, nm) refl in
            rw (← s.2) (record { good = tt; rest = q.0; splits = q.1; longest = symbol_longest c r q.0 s.0 o s.1 q.1 })
      ]
    ]
  ]
]

signed_none : (o : Option Symbol) (j : Symbol) → signed o ≡ None → o ≡ Some j → ⊥
signed_none None j h e = cc e
signed_none (Some k) j h e = cc h

named_none : (q : List ℕ) → IsLex (Quoted q) → named q ≡ None → ⊥
named_none [] l h = absurd l
named_none (c ∷ q) l h = cc h

quoted_none : (q r more : List ℕ) → IsLex (Quoted q) → r ≡ (q ++ 96 ∷ []) ++ more → quoted_at r ≡ None → ⊥
quoted_none q r more l e h =
    let flat : r ≡ q ++ 96 ∷ more = e ∙ append_assoc q (96 ∷ []) more in
    let u = run_until is_name q 96 more (some_name q l) refl in
    let bad : named q ≡ None = rw (flat, u.0, u.1) at h in
    named_none q l bad

text_none : (b r more : List ℕ) → is_body false b ≡ true → r ≡ (b ++ 34 ∷ []) ++ more → texted (body_at false r) ≡ None → ⊥
text_none b r more g e h =
    let flat : r ≡ b ++ 34 ∷ more = e ∙ append_assoc b (34 ∷ []) more in
    let bad = rw (flat, body_back false b more g) at h in cc bad

-- where no token is found, none stands
pub first_none : (c : ℕ) (r : List ℕ) → first c r ≡ None → (u : Lex) (more : List ℕ) → IsLex u → c ∷ r ≡ spelled u ++ more → ⊥
unfolding first
first_none c r h u more i e = elim (cases_Bool (is_letter c)) [
  | inl l ↦ let s = rw l at h in cc s
  | inr nl ↦ elim (cases_Bool (is_digit c)) [
    | inl l ↦ let s = rw (nl, l) at h in cc s
    | inr nd ↦ elim (cases_Bool (c == 96)) [
      | inl b ↦ let k : kind c ≡ Back = rw (nl, nd, b) refl in back u i e (rw (nl, nd, b) at h) k
      | inr nb ↦ elim (cases_Bool (c == 34)) [
        | inl m ↦ let k : kind c ≡ Mark = rw (nl, nd, nb, m) refl in mark u i e (rw (nl, nd, nb, m) at h) k
        | inr nm ↦ let k : kind c ≡ Other = rw (nl, nd, nb, nm) refl in other u i e (rw (nl, nd, nb, nm) at h) k
      ]
    ]
  ]
]
  where
    back : (u : Lex) → IsLex u → c ∷ r ≡ spelled u ++ more → quoted_at r ≡ None → kind c ≡ Back → ⊥
    back (Quoted q) i e s o = quoted_none q r more i (cons_inj c 96 r ((q ++ 96 ∷ []) ++ more) e).1 s
    back (Word d) i e s o = clash c Back Letter o (head_kind (Word d) c r more i e) (λ x. cc x)
    back (Digits d) i e s o = clash c Back Digit o (head_kind (Digits d) c r more i e) (λ x. cc x)
    back (Text d) i e s o = clash c Back Mark o (head_kind (Text d) c r more i e) (λ x. cc x)
    back (Sign d) i e s o = clash c Back Other o (head_kind (Sign d) c r more i e) (λ x. cc x)

    mark : (u : Lex) → IsLex u → c ∷ r ≡ spelled u ++ more → texted (body_at false r) ≡ None → kind c ≡ Mark → ⊥
    mark (Text b) i e s o = text_none b r more i (cons_inj c 34 r ((b ++ 34 ∷ []) ++ more) e).1 s
    mark (Word d) i e s o = clash c Mark Letter o (head_kind (Word d) c r more i e) (λ x. cc x)
    mark (Digits d) i e s o = clash c Mark Digit o (head_kind (Digits d) c r more i e) (λ x. cc x)
    mark (Quoted d) i e s o = clash c Mark Back o (head_kind (Quoted d) c r more i e) (λ x. cc x)
    mark (Sign d) i e s o = clash c Mark Other o (head_kind (Sign d) c r more i e) (λ x. cc x)

    other : (u : Lex) → IsLex u → c ∷ r ≡ spelled u ++ more → signed (first_symbol symbols c (slice_get r 0)) ≡ None → kind c ≡ Other → ⊥
    other (Word d) i e s o = clash c Other Letter o (head_kind (Word d) c r more i e) (λ x. cc x)
    other (Quoted d) i e s o = clash c Other Back o (head_kind (Quoted d) c r more i e) (λ x. cc x)
    other (Digits d) i e s o = clash c Other Digit o (head_kind (Digits d) c r more i e) (λ x. cc x)
    other (Text d) i e s o = clash c Other Mark o (head_kind (Text d) c r more i e) (λ x. cc x)
    other (Sign j) i e s o = let there = symbol_there j c r more e in signed_none (first_symbol symbols c (slice_get r 0)) there.0 s there.1

letter_no_blank : (c : ℕ) → is_letter c ≡ true → is_blank c ≡ false
letter_no_blank c h = grind (arith, h)

digit_no_blank : (c : ℕ) → is_digit c ≡ true → is_blank c ≡ false
digit_no_blank c h = grind (arith, h)

-- no token begins with a blank
pub head_no_blank : (u : Lex) (c : ℕ) (r more : List ℕ) → IsLex u → c ∷ r ≡ spelled u ++ more → is_blank c ≡ false
head_no_blank (Word []) c r more l e = absurd l
head_no_blank (Word (d ∷ w)) c r more l e = let h = cons_inj c d r (w ++ more) e in rw h.0 (letter_no_blank d l.0)
head_no_blank (Quoted q) c r more l e = let h = cons_inj c 96 r ((q ++ 96 ∷ []) ++ more) e in rw h.0 refl
head_no_blank (Digits []) c r more l e = absurd l
head_no_blank (Digits (d ∷ w)) c r more l e = let h = cons_inj c d r (w ++ more) e in rw h.0 (digit_no_blank d l.0)
head_no_blank (Text b) c r more l e = let h = cons_inj c 34 r ((b ++ 34 ∷ []) ++ more) e in rw h.0 refl
head_no_blank (Sign k) c r more l e =
    let (d, w, is, other, dark) = symbol_cons k in
    let h = cons_inj c d r (w ++ more) (e ∙ ap (λ (x : List ℕ). x ++ more) is) in
    rw h.0 dark

pub spelled_cons : (t : Lex) → IsLex t → (d : ℕ) × (w : List ℕ) × (spelled t ≡ d ∷ w)
spelled_cons (Word []) l = absurd l
spelled_cons (Word (d ∷ w)) l = (d, w, refl)
spelled_cons (Quoted q) l = (96, q ++ 96 ∷ [], refl)
spelled_cons (Digits []) l = absurd l
spelled_cons (Digits (d ∷ w)) l = (d, w, refl)
spelled_cons (Text b) l = (34, b ++ 34 ∷ [], refl)
spelled_cons (Sign k) l = let (d, w, is, other, dark) = symbol_cons k in (d, w, is)

-- one text is one token
pub lex_same : (t u : Lex) → IsLex t → IsLex u → spelled t ≡ spelled u → t ≡ u
lex_same t u lt lu e =
    let (d, w, is) = spelled_cons t lt in
    let a : d ∷ w ≡ spelled t ++ [] = sym is ∙ sym (append-nil (spelled t)) in
    let b : d ∷ w ≡ spelled u ++ [] = sym is ∙ e ∙ sym (append-nil (spelled u)) in
    by t u lt lu e (sym (head_kind t d w [] lt a) ∙ head_kind u d w [] lu b)
  where
    by : (t u : Lex) → IsLex t → IsLex u → spelled t ≡ spelled u → lex_kind t ≡ lex_kind u → t ≡ u
    by (Word v) (Word w) lt lu e k = ap Word e
    by (Word v) (Quoted w) lt lu e k = cc k
    by (Word v) (Digits w) lt lu e k = cc k
    by (Word v) (Text w) lt lu e k = cc k
    by (Word v) (Sign j) lt lu e k = cc k
    by (Quoted v) (Quoted w) lt lu e k = ap Quoted (name_same v w [] [] (some_name v lt) (some_name w lu) (cons_inj 96 96 _ _ e).1)
    by (Quoted v) (Word w) lt lu e k = cc k
    by (Quoted v) (Digits w) lt lu e k = cc k
    by (Quoted v) (Text w) lt lu e k = cc k
    by (Quoted v) (Sign j) lt lu e k = cc k
    by (Digits v) (Digits w) lt lu e k = ap Digits e
    by (Digits v) (Word w) lt lu e k = cc k
    by (Digits v) (Quoted w) lt lu e k = cc k
    by (Digits v) (Text w) lt lu e k = cc k
    by (Digits v) (Sign j) lt lu e k = cc k
    by (Text v) (Text w) lt lu e k = ap Text (body_same v w [] [] lt lu (cons_inj 34 34 _ _ e).1)
    by (Text v) (Word w) lt lu e k = cc k
    by (Text v) (Quoted w) lt lu e k = cc k
    by (Text v) (Digits w) lt lu e k = cc k
    by (Text v) (Sign j) lt lu e k = cc k
    by (Sign i) (Sign j) lt lu e k = ap Sign (symbol_same i j e)
    by (Sign i) (Word w) lt lu e k = cc k
    by (Sign i) (Quoted w) lt lu e k = cc k
    by (Sign i) (Digits w) lt lu e k = cc k
    by (Sign i) (Text w) lt lu e k = cc k
