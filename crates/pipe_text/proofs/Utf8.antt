-- The bytes of each token of a UTF-8 line are UTF-8.
use Rattle.std.proofs.Common.{◌≡◌, ◌≤◌, ◌<◌, ◌∷◌, ◌++◌, refl, ap, ℕ, List, [], length, take, drop, arith, append_assoc, Bool, true, false, get_or}
use Rattle.std.specs.List.{list_all}
use Rattle.std.specs.Str.{IsAscii, IsUtf8, IsCharBoundary}
use Rattle.std.proofs.lemmas.Bool.{ltb-true}
use Rattle.std.specs.Prelude.{nat_lt, IfOk, MatchBool, Result, Ok, Err, Vec}
use Rattle.std.specs.Global.{Global}
use Rattle.pipe_text.specs.declared.lexeme.Lexeme.{Lexeme}
use Rattle.pipe_text.specs.declared.line.LineFault.{LineFault}
use Rattle.std.proofs.lemmas.Str.{IsUtf8-drop, IsUtf8-nil, IsUtf8-take, IsUtf8-from_ascii, IsCharBoundary-after_ascii}
use Rattle.std.proofs.lemmas.Str.Ascii.{IsAscii-cons, IsAscii-nil}
use Rattle.pipe_text.specs.Token.{Lex, Word, Quoted, Digits, Text, Sign, IsLex, Lexes, is_blank, is_digit, is_letter, is_word, spelled, symbol_text, views}
use Rattle.pipe_text.specs.Line.{AreUtf8, ReadsAs, inside, is_quiet}
use Rattle.pipe_text.proofs.Bytes.{and_true}
use Rattle.pipe_text.proofs.Symbols.{symbol_ascii}

take_front : (q x : List ℕ) → take (length q) (q ++ x) ≡ q
take_front [] x = refl
take_front (c ∷ q) x = ap (λ (t : List ℕ). c ∷ t) (take_front q x)

drop_front : (q x : List ℕ) → drop (length q) (q ++ x) ≡ x
drop_front [] x = refl
drop_front (c ∷ q) x = drop_front q x

at_front : (q : List ℕ) (c : ℕ) (x : List ℕ) → get_or (q ++ c ∷ x) (length q) 0 ≡ c
at_front [] c x = refl
at_front (d ∷ q) c x = at_front q c x

long_front : (q : List ℕ) (c : ℕ) (x : List ℕ) → length q < length (q ++ c ∷ x)
long_front [] c x = omega arith
long_front (d ∷ q) c x = let ih = long_front q c x in omega (arith, ih)

-- a text up to an ASCII character, and what follows that
cut : (q : List ℕ) (c : ℕ) (x : List ℕ) → IsUtf8 (q ++ c ∷ x) → c < 128 → IsUtf8 q × IsUtf8 x
cut q c x u low =
    let here = at_front q c x in
    let long = long_front q c x in
    let bound : IsCharBoundary (q ++ c ∷ x) (length q) = (omega (arith, long), λ l high. absurd (omega (arith, here, high, low))) in
    let rest : IsUtf8 (c ∷ x) = rw (drop_front q (c ∷ x)) at (IsUtf8-drop (q ++ c ∷ x) (length q) u bound) in
    let front : IsUtf8 q = rw (take_front q (c ∷ x)) at (IsUtf8-take (q ++ c ∷ x) (length q) u bound) in
    (front, tail c x rest low)
  where
    tail : (c : ℕ) (x : List ℕ) → IsUtf8 (c ∷ x) → c < 128 → IsUtf8 x
    tail c x u low = IsUtf8-drop (c ∷ x) 1 u (IsCharBoundary-after_ascii (c ∷ x) 0 u (omega arith) low)

behind_all : (p : ℕ → Bool) → ((c : ℕ) → p c ≡ true → c < 128) → (w x : List ℕ) → list_all p w ≡ true → IsUtf8 (w ++ x) → IsUtf8 x
behind_all p low [] x a u = u
behind_all p low (c ∷ w) x a u =
    let b = and_true (p c) (list_all p w) a in
    behind_all p low w x b.1 (cut [] c (w ++ x) u (low c b.0)).1

blank_low : (c : ℕ) → is_blank c ≡ true → c < 128
blank_low c h = grind (arith, h)

word_low : (c : ℕ) → is_word c ≡ true → c < 128
word_low c h = grind (arith, h)

digit_low : (c : ℕ) → is_digit c ≡ true → c < 128
digit_low c h = grind (arith, h)

letter_low : (c : ℕ) → is_letter c ≡ true → c < 128
letter_low c h = grind (arith, h)

all_ascii : (p : ℕ → Bool) → ((c : ℕ) → p c ≡ true → c < 128) → (w : List ℕ) → list_all p w ≡ true → IsAscii w
all_ascii p low [] a = IsAscii-nil
all_ascii p low (c ∷ w) a = let b = and_true (p c) (list_all p w) a in IsAscii-cons c w (low c b.0) (all_ascii p low w b.1)

quoted_cut : (q : List ℕ) (c : ℕ) (x : List ℕ) → c < 128 → IsUtf8 (c ∷ (q ++ c ∷ []) ++ x) → IsUtf8 q × IsUtf8 x
quoted_cut q c x low u =
    let opened : IsUtf8 ((q ++ c ∷ []) ++ x) = (cut [] c ((q ++ c ∷ []) ++ x) u low).1 in
    let flat : IsUtf8 (q ++ c ∷ x) = rw (append_assoc q (c ∷ []) x) at opened in
    cut q c x flat low

one : (t : Lex) (x : List ℕ) → IsLex t → IsUtf8 (spelled t ++ x) → IsUtf8 (inside t) × IsUtf8 x
one (Word []) x l u = absurd l
one (Word (c ∷ w)) x l u =
    (IsUtf8-from_ascii (c ∷ w) (IsAscii-cons c w (letter_low c l.0) (all_ascii is_word word_low w l.1)), behind_all is_word word_low w x l.1 (cut [] c (w ++ x) u (letter_low c l.0)).1)
one (Quoted q) x l u = quoted_cut q 96 x (omega arith) u
one (Digits []) x l u = absurd l
one (Digits (c ∷ w)) x l u =
    (IsUtf8-from_ascii (c ∷ w) (IsAscii-cons c w (digit_low c l.0) (all_ascii is_digit digit_low w l.1)), behind_all is_digit digit_low w x l.1 (cut [] c (w ++ x) u (digit_low c l.0)).1)
one (Text b) x l u = quoted_cut b 34 x (omega arith) u
one (Sign k) x l u = (IsUtf8-nil, behind_all (λ c. nat_lt c 128) (λ c h. ltb-true c 128 h) (symbol_text k) x (symbol_ascii k) u)

pub tokens_utf8 : (ts : List Lex) (line : List ℕ) → IsUtf8 line → Lexes line ts → AreUtf8 ts
tokens_utf8 [] line u h = tt
tokens_utf8 (t ∷ ts) line u h =
    let (gap, rest, blank, splits, good, longest, more) = h in
    let behind_gap = behind_all is_blank blank_low gap (spelled t ++ rest) blank (rw splits at u) in
    let both = one t rest good behind_gap in
    (both.0, tokens_utf8 ts rest both.1 more)

pub read_utf8 : (line : List ℕ) (r : Result (Vec Lexeme Global) LineFault) → IsUtf8 line → IfOk r (λ v. Lexes line (views v.items) × (length (views v.items) ≤ 512)) → IfOk r (λ v. AreUtf8 (views v.items))
read_utf8 line (Ok v) u h = tokens_utf8 (views v.items) line u h.0
read_utf8 line (Err e) u h = h

pub line_utf8 : (line : List ℕ) (ts : List Lex) → ReadsAs line ts → AreUtf8 ts
line_utf8 line ts r = go (is_quiet line) r.tokens
  where
    go : (q : Bool) → MatchBool q (ts ≡ []) (Lexes line ts) → AreUtf8 ts
    go true none = rw none tt
    go false some = tokens_utf8 ts line r.utf8 some
