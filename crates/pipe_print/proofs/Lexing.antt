-- What is printed of a line lexes back: a space stops every token.
use Rattle.std.proofs.Common.{◌≡◌, ◌≤◌, ◌<◌, ◌⊎◌, ◌+◌, ◌==◌, ◌^◌, ◌∷◌, ◌++◌, ◌∙◌, sym, refl, ap, inl, inr, ℕ, suc, ℤ, pos, negsuc, List, [], length, map, Bool, true, false, arith, append_assoc, append-nil, Option, Some, None}
use Rattle.std.specs.Prelude.{◌&&◌, ◌||◌, not, nat_le, nat_lt, is_none, encode_utf8_all, if◌then◌else◌}
use Rattle.std.specs.List.{list_all}
use Rattle.std.specs.Fmt.{decimal}
use Rattle.std.specs.Str.{IsAscii, IsUtf8, all_scalars}
use Rattle.std.proofs.lemmas.Bool.{cases_Bool}
use Rattle.std.proofs.lemmas.Str.{IsUtf8-append, IsUtf8-from_ascii, IsUtf8-nil}
use Rattle.std.proofs.lemmas.Str.Ascii.{IsAscii-cons, IsAscii-nil}
use Rattle.pipe_text.specs.declared.lexeme.Symbol.{Symbol}
use Rattle.pipe_text.specs.declared.lexeme.Symbol.TheVariants as m
use Rattle.pipe_text.specs.Token.{Lex, Word, Quoted, Digits, Text, Sign, IsLex, IsLongest, Lexes, holds_at, is_blank, is_body, is_break, is_digit, is_escape, is_letter, is_name, is_plain as may_stand, is_word, is_word_text, spelled, step, symbol_text}
use Rattle.pipe_text.specs.Line.{ReadsAs, Tokens, is_quiet}
use Rattle.pipe_tokens.specs.Words.{reserved_of}
use Rattle.pipe_print.specs.Items.{Item, Fixed, Mark, Name, Int, Quote, escaped, is_plain, item_text, name_text, spaced}
use Rattle.pipe_print.proofs.Tokens.{AreGood, CanInt, CanName, CanText, IsGood, item_lexes, lexes, name_lex}
use Rattle.pipe_print.proofs.Names.{escapes_same, scalars_escaped}
use Rattle.pipe_print.proofs.Numbers.{decimal_lex}

-- the laws of the layer below
pub record Stops : Type 0 where
  pub space : (t : Lex) (rest : List ℕ) → IsLex t → IsLongest t (32 ∷ rest)
  pub last : (t : Lex) → IsLex t → IsLongest t []
  pub minus : (c : ℕ) (rest : List ℕ) → is_digit c ≡ true → IsLongest (Sign m.Minus) (c ∷ rest)

and_true : (a b : Bool) → (a && b) ≡ true → (a ≡ true) × (b ≡ true)
and_true true b h = (refl, h)
and_true false b h = cc h

-- ---- one item

word_lex : (w : List ℕ) → is_word_text w ≡ true → IsLex (Word w)
word_lex [] h = cc h
word_lex (c ∷ w) h = and_true (is_letter c) (list_all is_word w) h

name_good : (v : ℕ) (w : List ℕ) → (is_plain v w ≡ true) ⊎ IsLex (Quoted w) → IsLex (name_lex v w) × (spelled (name_lex v w) ≡ name_text v w)
name_good v w h = elim (cases_Bool (is_plain v w)) [
  | inl e ↦ rw e (word_lex w (and_true (is_word_text w) (is_none (reserved_of v w)) e).0, refl)
  | inr e ↦ rw e (elim h [ inl bad ↦ absurd (no (sym bad ∙ e)) | inr q ↦ (q, refl) ])
]
  where
    no : true ≡ false → ⊥
    no x = cc x

-- a token that stands alone, before more items
abbrev Alone : Item → Lex → ℕ → Type 0
Alone i t v = IsLex t × (spelled t ≡ item_text v i) × (item_lexes v i ≡ t ∷ [])

stops : Stops → (v : ℕ) (t : Lex) (is : List Item) → IsLex t → IsLongest t (spaced v is)
stops laws v t [] l = laws.last t l
stops laws v t (i ∷ is) l = laws.space t (item_text v i ++ spaced v is) l

-- one token behind a space
one : Stops → (v : ℕ) (i : Item) (t : Lex) (is : List Item) → Alone i t v → Lexes (spaced v is) (lexes v is) → Lexes (spaced v (i ∷ is)) (lexes v (i ∷ is))
one laws v i t is a h = rw a.2 (32 ∷ [], spaced v is, refl, ap (λ (x : List ℕ). 32 ∷ (x ++ spaced v is)) (sym a.1), a.0, stops laws v t is a.0, h)

-- a minus and digits behind a space
below : Stops → (v : ℕ) (ds : List ℕ) (rest : List ℕ) (ts : List Lex) → IsLex (Digits ds) → IsLongest (Digits ds) rest → Lexes rest ts → Lexes (32 ∷ 45 ∷ (ds ++ rest)) (Sign m.Minus ∷ Digits ds ∷ ts)
below laws v [] rest ts l g h = absurd l
below laws v (d ∷ ds) rest ts l g h = (32 ∷ [], d ∷ (ds ++ rest), refl, refl, tt, laws.minus d (ds ++ rest) l.0, ([], rest, refl, refl, l, g, h))

pub spaced_lexes : Stops → (v : ℕ) (is : List Item) → AreGood v is → Lexes (spaced v is) (lexes v is)
spaced_lexes laws v [] g = refl
spaced_lexes laws v (Fixed w ∷ is) g = one laws v (Fixed w) (Word w) is (word_lex w g.0, refl, refl) (spaced_lexes laws v is g.1)
spaced_lexes laws v (Mark k ∷ is) g = one laws v (Mark k) (Sign k) is (tt, refl, refl) (spaced_lexes laws v is g.1)
spaced_lexes laws v (Name w ∷ is) g =
    let n = name_good v (encode_utf8_all w) g.0.1 in
    one laws v (Name w) (name_lex v (encode_utf8_all w)) is (n.0, n.1, refl) (spaced_lexes laws v is g.1)
spaced_lexes laws v (Int (pos n) ∷ is) g = one laws v (Int (pos n)) (Digits (decimal n)) is (decimal_lex n (fits n g.0), refl, refl) (spaced_lexes laws v is g.1)
  where
    fits : (n : ℕ) → n < 2 ^ 63 → n < 2 ^ 64
    fits n h = omega (arith, h)
spaced_lexes laws v (Int (negsuc n) ∷ is) g =
    let d = decimal_lex (suc n) (fits n g.0) in
    below laws v (decimal (suc n)) (spaced v is) (lexes v is) d (stops laws v (Digits (decimal (suc n))) is d) (spaced_lexes laws v is g.1)
  where
    fits : (n : ℕ) → n < 2 ^ 63 → suc n < 2 ^ 64
    fits n h = omega (arith, h)
spaced_lexes laws v (Quote s ∷ is) g = one laws v (Quote s) (Text (escaped (encode_utf8_all s))) is (g.0.1, refl, refl) (spaced_lexes laws v is g.1)

-- the whole line, whose first word stands in front
pub line_lexes : Stops → (v : ℕ) (w : List ℕ) (is : List Item) → AreGood v (Fixed w ∷ is) → Lexes (w ++ spaced v is) (lexes v (Fixed w ∷ is))
line_lexes laws v w is g = let l = word_lex w g.0 in ([], spaced v is, refl, refl, l, stops laws v (Word w) is l, spaced_lexes laws v is g.1)

-- ---- a line that begins with a letter isn't quiet

letter_loud : (c : ℕ) (rest : List ℕ) → is_letter c ≡ true → is_quiet (c ∷ rest) ≡ false
letter_loud c rest h =
    let blank : is_blank c ≡ false = grind (arith, h) in
    let hash : (c == 35) ≡ false = grind (arith, h) in
    rw (blank, hash) refl

pub word_loud : (w : List ℕ) (rest : List ℕ) → is_word_text w ≡ true → is_quiet (w ++ rest) ≡ false
word_loud [] rest h = cc h
word_loud (c ∷ w) rest h = letter_loud c (w ++ rest) (and_true (is_letter c) (list_all is_word w) h).0

-- ---- its bytes are UTF-8

low_all : (p : ℕ → Bool) → ((c : ℕ) → p c ≡ true → c < 128) → (w : List ℕ) → list_all p w ≡ true → IsAscii w
low_all p low [] a = IsAscii-nil
low_all p low (c ∷ w) a = let b = and_true (p c) (list_all p w) a in IsAscii-cons c w (low c b.0) (low_all p low w b.1)

word_utf8 : (w : List ℕ) → IsLex (Word w) → IsUtf8 w
word_utf8 [] l = absurd l
word_utf8 (c ∷ w) l = IsUtf8-from_ascii (c ∷ w) (IsAscii-cons c w (letter_low c l.0) (low_all is_word word_low w l.1))
  where
    letter_low : (c : ℕ) → is_letter c ≡ true → c < 128
    letter_low c h = grind (arith, h)

    word_low : (c : ℕ) → is_word c ≡ true → c < 128
    word_low c h = grind (arith, h)

digits_utf8 : (w : List ℕ) → IsLex (Digits w) → IsUtf8 w
digits_utf8 [] l = absurd l
digits_utf8 (c ∷ w) l = IsUtf8-from_ascii (c ∷ w) (IsAscii-cons c w (digit_low c l.0) (low_all is_digit digit_low w l.1))
  where
    digit_low : (c : ℕ) → is_digit c ≡ true → c < 128
    digit_low c h = grind (arith, h)

-- an ASCII character and a text
low_utf8 : (c : ℕ) (w : List ℕ) → c < 128 → IsUtf8 w → IsUtf8 (c ∷ w)
low_utf8 c w low u = IsUtf8-append (c ∷ []) w (IsUtf8-from_ascii (c ∷ []) (IsAscii-cons c [] low IsAscii-nil)) u

between : (c : ℕ) (w : List ℕ) → c < 128 → IsUtf8 w → IsUtf8 (c ∷ (w ++ c ∷ []))
between c w low u = low_utf8 c (w ++ c ∷ []) low (IsUtf8-append w (c ∷ []) u (low_utf8 c [] low IsUtf8-nil))

symbol_utf8 : (k : Symbol) → IsUtf8 (symbol_text k)
symbol_utf8 m.Open = low_utf8 40 [] (omega arith) IsUtf8-nil
symbol_utf8 m.Close = low_utf8 41 [] (omega arith) IsUtf8-nil
symbol_utf8 m.Comma = low_utf8 44 [] (omega arith) IsUtf8-nil
symbol_utf8 m.Colon = low_utf8 58 [] (omega arith) IsUtf8-nil
symbol_utf8 m.Equal = low_utf8 61 [] (omega arith) IsUtf8-nil
symbol_utf8 m.Differ = low_utf8 33 (61 ∷ []) (omega arith) (low_utf8 61 [] (omega arith) IsUtf8-nil)
symbol_utf8 m.Less = low_utf8 60 [] (omega arith) IsUtf8-nil
symbol_utf8 m.AtMost = low_utf8 60 (61 ∷ []) (omega arith) (low_utf8 61 [] (omega arith) IsUtf8-nil)
symbol_utf8 m.More = low_utf8 62 [] (omega arith) IsUtf8-nil
symbol_utf8 m.AtLeast = low_utf8 62 (61 ∷ []) (omega arith) (low_utf8 61 [] (omega arith) IsUtf8-nil)
symbol_utf8 m.Plus = low_utf8 43 [] (omega arith) IsUtf8-nil
symbol_utf8 m.Join = low_utf8 43 (43 ∷ []) (omega arith) (low_utf8 43 [] (omega arith) IsUtf8-nil)
symbol_utf8 m.Minus = low_utf8 45 [] (omega arith) IsUtf8-nil
symbol_utf8 m.Arrow = low_utf8 45 (62 ∷ []) (omega arith) (low_utf8 62 [] (omega arith) IsUtf8-nil)
symbol_utf8 m.Times = low_utf8 42 [] (omega arith) IsUtf8-nil
symbol_utf8 m.Divide = low_utf8 47 [] (omega arith) IsUtf8-nil
symbol_utf8 m.Remainder = low_utf8 37 [] (omega arith) IsUtf8-nil

item_utf8 : (v : ℕ) (i : Item) → IsGood v i → IsUtf8 (item_text v i)
item_utf8 v (Fixed w) g = word_utf8 w (word_lex w g)
item_utf8 v (Mark k) g = symbol_utf8 k
item_utf8 v (Name w) g = elim (cases_Bool (is_plain v (encode_utf8_all w))) [
  | inl e ↦ rw e (w, (g.0, refl))
  | inr e ↦ rw e (between 96 (encode_utf8_all w) (omega arith) (w, (g.0, refl)))
]
item_utf8 v (Int (pos n)) g = digits_utf8 (decimal n) (decimal_lex n (fits n g))
  where
    fits : (n : ℕ) → n < 2 ^ 63 → n < 2 ^ 64
    fits n h = omega (arith, h)
item_utf8 v (Int (negsuc n)) g = low_utf8 45 (decimal (suc n)) (omega arith) (digits_utf8 (decimal (suc n)) (decimal_lex (suc n) (fits n g)))
  where
    fits : (n : ℕ) → n < 2 ^ 63 → suc n < 2 ^ 64
    fits n h = omega (arith, h)
item_utf8 v (Quote s) g = between 34 (escaped (encode_utf8_all s)) (omega arith) (escaped s, (scalars_escaped s g.0, sym (escapes_same s)))

pub spaced_utf8 : (v : ℕ) (is : List Item) → AreGood v is → IsUtf8 (spaced v is)
spaced_utf8 v [] g = IsUtf8-nil
spaced_utf8 v (i ∷ is) g = low_utf8 32 (item_text v i ++ spaced v is) (omega arith) (IsUtf8-append (item_text v i) (spaced v is) (item_utf8 v i g.0) (spaced_utf8 v is g.1))

-- the line reads as its tokens
pub line_reads : Stops → (v : ℕ) (w : List ℕ) (is : List Item) → AreGood v (Fixed w ∷ is) → length (lexes v (Fixed w ∷ is)) ≤ 512 → ReadsAs (w ++ spaced v is) (lexes v (Fixed w ∷ is))
line_reads laws v w is g few =
    let loud = word_loud w (spaced v is) g.0 in
    record {
      utf8 = IsUtf8-append w (spaced v is) (word_utf8 w (word_lex w g.0)) (spaced_utf8 v is g.1);
      tokens = rw loud (line_lexes laws v w is g);
      few = few;
    }

-- ---- no line ends inside

abbrev pub clean : ℕ → Bool
clean c = not (is_break c)

some_step : (o : Option Bool) (f : Bool → Bool) → holds_at o f ≡ true → (b : Bool) × (o ≡ Some b) × (f b ≡ true)
some_step None f h = cc h
some_step (Some b) f h = (b, refl, h)

all_of : (p q : ℕ → Bool) → ((c : ℕ) → p c ≡ true → q c ≡ true) → (w : List ℕ) → list_all p w ≡ true → list_all q w ≡ true
all_of p q f [] a = refl
all_of p q f (c ∷ w) a = let b = and_true (p c) (list_all p w) a in rw (f c b.0) (all_of p q f w b.1)

all_append : (p : ℕ → Bool) (a b : List ℕ) → list_all p a ≡ true → list_all p b ≡ true → list_all p (a ++ b) ≡ true
all_append p [] b x y = y
all_append p (c ∷ a) b x y = let q = and_true (p c) (list_all p a) x in rw q.0 (all_append p a b q.1 y)

letter_clean : (c : ℕ) → is_letter c ≡ true → clean c ≡ true
letter_clean c h = grind (arith, h)

word_clean : (c : ℕ) → is_word c ≡ true → clean c ≡ true
word_clean c h = grind (arith, h)

digit_clean : (c : ℕ) → is_digit c ≡ true → clean c ≡ true
digit_clean c h = grind (arith, h)

name_clean : (c : ℕ) → is_name c ≡ true → clean c ≡ true
name_clean c h = grind (arith, h)

step_clean : (e : Bool) (c : ℕ) (f : Bool) → step e c ≡ Some f → clean c ≡ true
step_clean true c f h = grind (arith, h)
step_clean false c f h = grind (arith, h)

body_clean : (e : Bool) (b : List ℕ) → is_body e b ≡ true → list_all clean b ≡ true
body_clean e [] h = refl
body_clean e (c ∷ b) h =
    let (f, goes, good) = some_step (step e c) (λ x. is_body x b) h in
    rw (step_clean e c f goes) (body_clean f b good)

lex_clean : (t : Lex) → IsLex t → list_all clean (spelled t) ≡ true
lex_clean (Word []) l = absurd l
lex_clean (Word (c ∷ w)) l = rw (letter_clean c l.0) (all_of is_word clean word_clean w l.1)
lex_clean (Quoted []) l = absurd l
lex_clean (Quoted (c ∷ q)) l = all_append clean (c ∷ q) (96 ∷ []) (all_of is_name clean name_clean (c ∷ q) l) refl
lex_clean (Digits []) l = absurd l
lex_clean (Digits (c ∷ w)) l = rw (digit_clean c l.0) (all_of is_digit clean digit_clean w l.1)
lex_clean (Text b) l = all_append clean b (34 ∷ []) (body_clean false b l) refl
lex_clean (Sign m.Open) l = refl
lex_clean (Sign m.Close) l = refl
lex_clean (Sign m.Comma) l = refl
lex_clean (Sign m.Colon) l = refl
lex_clean (Sign m.Equal) l = refl
lex_clean (Sign m.Differ) l = refl
lex_clean (Sign m.Less) l = refl
lex_clean (Sign m.AtMost) l = refl
lex_clean (Sign m.More) l = refl
lex_clean (Sign m.AtLeast) l = refl
lex_clean (Sign m.Plus) l = refl
lex_clean (Sign m.Join) l = refl
lex_clean (Sign m.Minus) l = refl
lex_clean (Sign m.Arrow) l = refl
lex_clean (Sign m.Times) l = refl
lex_clean (Sign m.Divide) l = refl
lex_clean (Sign m.Remainder) l = refl

item_clean : (v : ℕ) (i : Item) → IsGood v i → list_all clean (item_text v i) ≡ true
item_clean v (Fixed w) g = lex_clean (Word w) (word_lex w g)
item_clean v (Mark k) g = lex_clean (Sign k) tt
item_clean v (Name w) g =
    let n = name_good v (encode_utf8_all w) g.1 in
    rw n.1 at (lex_clean (name_lex v (encode_utf8_all w)) n.0)
item_clean v (Int (pos n)) g = lex_clean (Digits (decimal n)) (decimal_lex n (fits n g))
  where
    fits : (n : ℕ) → n < 2 ^ 63 → n < 2 ^ 64
    fits n h = omega (arith, h)
item_clean v (Int (negsuc n)) g = lex_clean (Digits (decimal (suc n))) (decimal_lex (suc n) (fits n g))
  where
    fits : (n : ℕ) → n < 2 ^ 63 → suc n < 2 ^ 64
    fits n h = omega (arith, h)
item_clean v (Quote s) g = lex_clean (Text (escaped (encode_utf8_all s))) g.1

spaced_clean : (v : ℕ) (is : List Item) → AreGood v is → list_all clean (spaced v is) ≡ true
spaced_clean v [] g = refl
spaced_clean v (i ∷ is) g = all_append clean (item_text v i) (spaced v is) (item_clean v i g.0) (spaced_clean v is g.1)

pub line_clean : (v : ℕ) (w : List ℕ) (is : List Item) → AreGood v (Fixed w ∷ is) → list_all clean (w ++ spaced v is) ≡ true
line_clean v w is g = all_append clean w (spaced v is) (item_clean v (Fixed w) g.0) (spaced_clean v is g.1)
