-- Names, texts and ints: those of a line's tokens can be written, and what is written means the same.
use Rattle.std.proofs.Common.{◌≡◌, ◌≤◌, ◌<◌, ◌⊎◌, ◌+◌, ◌-◌, ◌*◌, ◌==◌, ◌^◌, ◌∷◌, ◌++◌, ◌∙◌, sym, refl, ap, inl, inr, ℕ, suc, ℤ, pos, negsuc, List, [], length, map, Bool, true, false, arith, append_assoc, append-nil, get_or, eqb→eq, Option, Some, None, cond}
use Rattle.std.specs.Prelude.{◌&&◌, ◌||◌, not, nat_le, nat_lt, is_none, encode_utf8_all, encode_utf8, if◌then◌else◌}
use Rattle.std.specs.List.{flat_map, list_all}
use Rattle.std.specs.Fmt.{decimal}
use Rattle.std.specs.Str.{IsUtf8, chars, all_scalars}
use Rattle.std.proofs.Math.Utf8.{scalar, scalars}
use Rattle.std.proofs.lemmas.Bool.{cases_Bool}
use Rattle.std.proofs.lemmas.Grind.{flat_map-append}
use Rattle.std.proofs.lemmas.Str.{chars-encodes, encodes-append, encodes-chars, encode_ascii, inside_one, scalars-chars}
use Rattle.pipe_text.specs.Token.{Lex, Word, Quoted, Digits, Text, Sign, IsLex, holds_at, is_body, is_break, is_digit, is_escape, is_letter, is_name, is_plain as may_stand, is_word, is_word_text, step}
use Rattle.pipe_text.specs.Line.{inside}
use Rattle.pipe_tokens.specs.Words.{reserved_of, verb_of}
use Rattle.pipe_tokens.specs.Meaning.{all_meant, capped, escape_of, meant, unescaped, value_after, word_meant}
use Rattle.pipe_expr.specs.declared.token.Token.{Token}
use Rattle.pipe_expr.specs.declared.token.Token.TheVariants as t
use Rattle.pipe_expr.specs.declared.token.Reserved.{Reserved}
use Rattle.pipe_expr.specs.declared.token.Verb.{Verb}
use Rattle.pipe_expr.specs.Grammar.{IsInt, IsName, int_of}
use Rattle.pipe_print.specs.Items.{Item, Fixed, Mark, Name, Int, Quote, escape, escaped, is_plain}
use Rattle.pipe_print.proofs.Tokens.{AreMade, CanInt, CanName, CanText, IsMade, name_lex}

and_true : (a b : Bool) → (a && b) ≡ true → (a ≡ true) × (b ≡ true)
and_true true b h = (refl, h)
and_true false b h = cc h

-- ---- names

-- a word that isn't reserved
word_open : (v : ℕ) (w : List ℕ) (o : Option Reserved) (verb : Verb) (n : List ℕ) → word_meant w o ≡ t.Word verb n → (is_none o ≡ true) × (chars w ≡ n)
word_open v w None verb n h = (refl, cc h)
word_open v w (Some k) verb n h = cc h

word_form : (w : List ℕ) → IsLex (Word w) → is_word_text w ≡ true
word_form [] l = absurd l
word_form (c ∷ w) l = rw (l.0, l.1) refl

pub word_name : (v : ℕ) (verb : Verb) (n : List ℕ) → IsMade v (t.Word verb n) → CanName v n
word_name v verb n (Word w, l, u, e) =
    let o = word_open v w (reserved_of v w) verb n e in
    let back : encode_utf8_all n ≡ w = ap encode_utf8_all (sym o.1) ∙ encodes-chars w u in
    (ap all_scalars (sym o.1) ∙ scalars-chars w u, inl (ap (is_plain v) back ∙ rw (word_form w l, o.0) refl))
word_name v verb n (Quoted w, l, u, e) = cc e
word_name v verb n (Digits w, l, u, e) = cc e
word_name v verb n (Text w, l, u, e) = cc e
word_name v verb n (Sign k, l, u, e) = cc e

not_word : (w q : List ℕ) (o : Option Reserved) → word_meant w o ≡ t.Quoted q → ⊥
not_word w q None h = cc h
not_word w q (Some k) h = cc h

pub quoted_name : (v : ℕ) (n : List ℕ) → IsMade v (t.Quoted n) → CanName v n
quoted_name v n (Word w, l, u, e) = absurd (not_word w n (reserved_of v w) e)
quoted_name v n (Quoted w, l, u, e) =
    let same : chars w ≡ n = cc e in
    let back : encode_utf8_all n ≡ w = ap encode_utf8_all (sym same) ∙ encodes-chars w u in
    (ap all_scalars (sym same) ∙ scalars-chars w u, inr (rw back l))
quoted_name v n (Digits w, l, u, e) = cc e
quoted_name v n (Text w, l, u, e) = cc e
quoted_name v n (Sign k, l, u, e) = cc e

pub name_can : (v : ℕ) (n : List ℕ) (ts : List Token) → IsName n ts → AreMade v ts → CanName v n
name_can v n ts (inl e) made = quoted_name v n (rw e at made).0
name_can v n ts (inr (verb, e)) made = word_name v verb n (rw e at made).0

none_is : (o : Option Reserved) → is_none o ≡ true → o ≡ None
none_is None h = refl
none_is (Some k) h = cc h

-- a name that is written means itself
pub name_means : (v : ℕ) (n : List ℕ) → CanName v n → IsName n (meant v (name_lex v (encode_utf8_all n)) ∷ [])
name_means v n c = elim (cases_Bool (is_plain v (encode_utf8_all n))) [
  | inl e ↦
      let free_word = none_is (reserved_of v (encode_utf8_all n)) (and_true (is_word_text (encode_utf8_all n)) (is_none (reserved_of v (encode_utf8_all n))) e).1 in
      rw (e, free_word, chars-encodes n c.0) (inr (verb_of (encode_utf8_all n), refl))
  | inr e ↦ rw (e, chars-encodes n c.0) (inl refl)
]

-- ---- texts

not_text_word : (w s : List ℕ) (o : Option Reserved) → word_meant w o ≡ t.Quote s → ⊥
not_text_word w s None h = cc h
not_text_word w s (Some k) h = cc h

-- no carriage return
abbrev free : ℕ → Bool
free c = not (c == 13)

some_step : (o : Option Bool) (f : Bool → Bool) → holds_at o f ≡ true → (b : Bool) × (o ≡ Some b) × (f b ≡ true)
some_step None f h = cc h
some_step (Some b) f h = (b, refl, h)

step_free : (e : Bool) (c : ℕ) (f : Bool) → step e c ≡ Some f → free c ≡ true
step_free e c f h = elim (cases_Bool (c == 13)) [
  | inl q ↦ let is : c ≡ 13 = eqb→eq c 13 (rw q tt) in bad e (rw is at h)
  | inr q ↦ rw q refl
]
  where
    bad : (e : Bool) → step e 13 ≡ Some f → free c ≡ true
    bad true h = cc h
    bad false h = cc h

body_free : (e : Bool) (b : List ℕ) → is_body e b ≡ true → list_all free b ≡ true
body_free e [] h = refl
body_free e (c ∷ b) h =
    let (f, goes, good) = some_step (step e c) (λ x. is_body x b) h in
    rw (step_free e c f goes) (body_free f b good)

all_append : (p : ℕ → Bool) (a b : List ℕ) → list_all p (a ++ b) ≡ true → (list_all p a ≡ true) × (list_all p b ≡ true)
all_append p [] b h = (refl, h)
all_append p (c ∷ a) b h =
    let q = and_true (p c) (list_all p (a ++ b)) h in
    let r = all_append p a b q.1 in
    (rw (q.0, r.0) refl, r.1)

-- so have the characters
chars_free : (cs : List ℕ) → list_all free (encode_utf8_all cs) ≡ true → list_all free cs ≡ true
chars_free [] h = refl
chars_free (c ∷ cs) h =
    let both = all_append free (encode_utf8 c) (encode_utf8_all cs) h in
    elim (cases_Bool (c == 13)) [
      | inl q ↦
          let is : c ≡ 13 = eqb→eq c 13 (rw q tt) in
          let bytes : encode_utf8 c ≡ 13 ∷ [] = ap encode_utf8 is ∙ encode_ascii 13 (omega arith) in
          let bad = rw bytes at both.0 in
          cc bad
      | inr q ↦ rw q (chars_free cs both.1)
    ]

escape_free : (c : ℕ) → free c ≡ true → free (escape_of c) ≡ true
escape_free c h = elim (cases_Bool (c == 110)) [
  | inl a ↦ rw a refl
  | inr a ↦ elim (cases_Bool (c == 116)) [
    | inl b ↦ rw (a, b) refl
    | inr b ↦ rw (a, b) h
  ]
]

unescaped_free : (e : Bool) (cs : List ℕ) → list_all free cs ≡ true → list_all free (unescaped e cs) ≡ true
unescaped_free e [] h = refl
unescaped_free true (c ∷ cs) h =
    let q = and_true (free c) (list_all free cs) h in
    rw (escape_free c q.0) (unescaped_free false cs q.1)
unescaped_free false (c ∷ cs) h =
    let q = and_true (free c) (list_all free cs) h in
    elim (cases_Bool (c == 92)) [
      | inl b ↦ rw b (unescaped_free true cs q.1)
      | inr b ↦ rw (b, q.0) (unescaped_free false cs q.1)
    ]

-- ---- bytes of characters

abbrev high : ℕ → Bool
high c = nat_le 128 c

all_high : (l : List ℕ) → ((k : ℕ) → k < length l → get_or l k 0 < 128 → ⊥) → list_all high l ≡ true
all_high [] h = refl
all_high (b ∷ l) h = elim (cases_Bool (nat_le 128 b)) [
  | inl e ↦ rw e (all_high l (λ k lt low. h (suc k) (omega (arith, lt)) low))
  | inr e ↦ absurd (h 0 (omega arith) (grind (arith, e)))
]

high_bytes : (c : ℕ) → 128 ≤ c → list_all high (encode_utf8 c) ≡ true
high_bytes c le = all_high (encode_utf8 c) (λ k lt low.
    let same = inside_one c [] (encode_utf8 c) k (sym (append-nil (encode_utf8 c))) lt low in
    absurd (omega (arith, le, same, low)))

high_escape : (c : ℕ) → high c ≡ true → escape c ≡ c ∷ []
high_escape c h = grind (arith, h)

high_same : (l : List ℕ) → list_all high l ≡ true → escaped l ≡ l
high_same [] h = refl
high_same (c ∷ l) h =
    let q = and_true (high c) (list_all high l) h in
    rw (high_escape c q.0) (ap (λ (x : List ℕ). c ∷ x) (high_same l q.1))

high_step : (c : ℕ) → high c ≡ true → step false c ≡ Some false
high_step c h = grind (arith, h)

high_body : (l r : List ℕ) → list_all high l ≡ true → is_body false (l ++ r) ≡ is_body false r
high_body [] r h = refl
high_body (c ∷ l) r h =
    let q = and_true (high c) (list_all high l) h in
    rw (high_step c q.0) (high_body l r q.1)

low_or : (c : ℕ) → (c < 128) ⊎ (128 ≤ c)
low_or c = elim (cases_Bool (nat_lt c 128)) [ inl e ↦ inl (grind (arith, e)) | inr e ↦ inr (grind (arith, e)) ]

-- an escape is of ASCII
encode_escape : (c : ℕ) → c < 128 → encode_utf8_all (escape c) ≡ escape c
encode_escape c low = elim (cases_Bool (c == 34)) [
  | inl a ↦ rw (a, encode_ascii 92 (omega arith), encode_ascii 34 (omega arith)) refl
  | inr a ↦ elim (cases_Bool (c == 92)) [
    | inl b ↦ rw (a, b, encode_ascii 92 (omega arith)) refl
    | inr b ↦ elim (cases_Bool (c == 10)) [
      | inl d ↦ rw (a, b, d, encode_ascii 92 (omega arith), encode_ascii 110 (omega arith)) refl
      | inr d ↦ elim (cases_Bool (c == 9)) [
        | inl g ↦ rw (a, b, d, g, encode_ascii 92 (omega arith), encode_ascii 116 (omega arith)) refl
        | inr g ↦ rw (a, b, d, g, encode_ascii c low) refl
      ]
    ]
  ]
]

-- escapes may be made of the bytes or of the characters
one_escape : (c : ℕ) → escaped (encode_utf8 c) ≡ encode_utf8_all (escape c)
one_escape c = elim (low_or c) [
  | inl low ↦ rw (encode_ascii c low) (append-nil (escape c) ∙ sym (encode_escape c low))
  | inr le ↦
      let e = high_escape c (grind (arith, le)) in
      rw e (high_same (encode_utf8 c) (high_bytes c le) ∙ sym (append-nil (encode_utf8 c)))
]

pub escapes_same : (cs : List ℕ) → escaped (encode_utf8_all cs) ≡ encode_utf8_all (escaped cs)
escapes_same [] = refl
escapes_same (c ∷ cs) =
    flat_map-append escape (encode_utf8 c) (encode_utf8_all cs)
    ∙ ap (λ (x : List ℕ). x ++ escaped (encode_utf8_all cs)) (one_escape c)
    ∙ ap (λ (x : List ℕ). encode_utf8_all (escape c) ++ x) (escapes_same cs)
    ∙ sym (encodes-append (escape c) (escaped cs))

-- what is escaped is read again
pub unescapes : (cs : List ℕ) → unescaped false (escaped cs) ≡ cs
unescapes [] = refl
unescapes (c ∷ cs) = elim (cases_Bool (c == 34)) [
  | inl a ↦ let is : c ≡ 34 = eqb→eq c 34 (rw a tt) in rw is (ap (λ (x : List ℕ). 34 ∷ x) (unescapes cs))
  | inr a ↦ elim (cases_Bool (c == 92)) [
    | inl b ↦ let is : c ≡ 92 = eqb→eq c 92 (rw b tt) in rw is (ap (λ (x : List ℕ). 92 ∷ x) (unescapes cs))
    | inr b ↦ elim (cases_Bool (c == 10)) [
      | inl d ↦ let is : c ≡ 10 = eqb→eq c 10 (rw d tt) in rw is (ap (λ (x : List ℕ). 10 ∷ x) (unescapes cs))
      | inr d ↦ elim (cases_Bool (c == 9)) [
        | inl g ↦ let is : c ≡ 9 = eqb→eq c 9 (rw g tt) in rw is (ap (λ (x : List ℕ). 9 ∷ x) (unescapes cs))
        | inr g ↦ rw (a, b, d, g, b) (ap (λ (x : List ℕ). c ∷ x) (unescapes cs))
      ]
    ]
  ]
]

scalar_escape : (c : ℕ) → all_scalars (c ∷ []) ≡ true → all_scalars (escape c) ≡ true
scalar_escape c h = elim (cases_Bool (c == 34)) [
  | inl a ↦ rw a refl
  | inr a ↦ elim (cases_Bool (c == 92)) [
    | inl b ↦ rw (a, b) refl
    | inr b ↦ elim (cases_Bool (c == 10)) [
      | inl d ↦ rw (a, b, d) refl
      | inr d ↦ elim (cases_Bool (c == 9)) [
        | inl g ↦ rw (a, b, d, g) refl
        | inr g ↦ rw (a, b, d, g) h
      ]
    ]
  ]
]

scalars_append : (a b : List ℕ) → all_scalars a ≡ true → all_scalars b ≡ true → all_scalars (a ++ b) ≡ true
scalars_append [] b x y = y
scalars_append (c ∷ a) b x y = let q = and_true (scalar c) (scalars a) x in rw q.0 (scalars_append a b q.1 y)

pub scalars_escaped : (cs : List ℕ) → all_scalars cs ≡ true → all_scalars (escaped cs) ≡ true
scalars_escaped [] h = refl
scalars_escaped (c ∷ cs) h =
    let q = and_true (scalar c) (scalars cs) h in
    scalars_append (escape c) (escaped cs) (scalar_escape c (rw q.0 refl)) (scalars_escaped cs q.1)

-- the inside of a text that is written
escape_body : (c : ℕ) (r : List ℕ) → free c ≡ true → is_body false (escape c ++ r) ≡ is_body false r
escape_body c r h = elim (cases_Bool (c == 34)) [
  | inl a ↦ rw a refl
  | inr a ↦ elim (cases_Bool (c == 92)) [
    | inl b ↦ rw (a, b) refl
    | inr b ↦ elim (cases_Bool (c == 10)) [
      | inl d ↦ rw (a, b, d) refl
      | inr d ↦ elim (cases_Bool (c == 9)) [
        | inl g ↦ rw (a, b, d, g) refl
        | inr g ↦ elim (cases_Bool (c == 13)) [
          | inl i ↦ let bad = rw i at h in cc bad
          | inr i ↦ rw (a, b, d, g, b, a, i, d) refl
        ]
      ]
    ]
  ]
]

pub body_escaped : (cs : List ℕ) → list_all free cs ≡ true → is_body false (encode_utf8_all (escaped cs)) ≡ true
body_escaped [] h = refl
body_escaped (c ∷ cs) h =
    let q = and_true (free c) (list_all free cs) h in
    let ih = body_escaped cs q.1 in
    elim (low_or c) [
      | inl low ↦ rw (encodes-append (escape c) (escaped cs), encode_escape c low) (escape_body c (encode_utf8_all (escaped cs)) q.0 ∙ ih)
      | inr le ↦
          let e = high_escape c (grind (arith, le)) in
          rw e (high_body (encode_utf8 c) (encode_utf8_all (escaped cs)) (high_bytes c le) ∙ ih)
    ]

pub text_can : (v : ℕ) (s : List ℕ) → IsMade v (t.Quote s) → CanText s
text_can v s (Word w, l, u, e) = absurd (not_text_word w s (reserved_of v w) e)
text_can v s (Quoted w, l, u, e) = cc e
text_can v s (Digits w, l, u, e) = cc e
text_can v s (Text b, l, u, e) =
    let same : unescaped false (chars b) ≡ s = cc e in
    let back : list_all free (encode_utf8_all (chars b)) ≡ true = rw (encodes-chars b u) (body_free false b l) in
    let clean : list_all free s ≡ true = rw same at (unescaped_free false (chars b) (chars_free (chars b) back)) in
    let scalar : all_scalars s ≡ true = rw same at (scalars_unescaped false (chars b) (scalars-chars b u)) in
    (scalar, rw (escapes_same s) (body_escaped s clean))
  where
    scalar_of : (c : ℕ) (r : List ℕ) → all_scalars (c ∷ r) ≡ true → all_scalars (escape_of c ∷ []) ≡ true
    scalar_of c r h = elim (cases_Bool (c == 110)) [
      | inl a ↦ rw a refl
      | inr a ↦ elim (cases_Bool (c == 116)) [
        | inl b ↦ rw (a, b) refl
        | inr b ↦ let q = and_true (scalar c) (scalars r) h in rw (a, b, q.0) refl
      ]
    ]

    scalars_unescaped : (e : Bool) (cs : List ℕ) → all_scalars cs ≡ true → all_scalars (unescaped e cs) ≡ true
    scalars_unescaped e [] h = refl
    scalars_unescaped true (c ∷ cs) h =
        let q = and_true (scalar c) (scalars cs) h in
        scalars_append (escape_of c ∷ []) (unescaped false cs) (scalar_of c cs h) (scalars_unescaped false cs q.1)
    scalars_unescaped false (c ∷ cs) h =
        let q = and_true (scalar c) (scalars cs) h in
        elim (cases_Bool (c == 92)) [
          | inl b ↦ rw b (scalars_unescaped true cs q.1)
          | inr b ↦ rw (b, q.0) (scalars_unescaped false cs q.1)
        ]
text_can v s (Sign k, l, u, e) = cc e

pub text_means : (v : ℕ) (s : List ℕ) → CanText s → meant v (Text (escaped (encode_utf8_all s))) ≡ t.Quote s
text_means v s c = ap t.Quote (
    ap (λ (x : List ℕ). unescaped false (chars x)) (escapes_same s)
    ∙ ap (unescaped false) (chars-encodes (escaped s) (scalars_escaped s c.0))
    ∙ unescapes s)
