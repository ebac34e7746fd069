-- The tokens of a line, and which bytes spell them.
use Rattle.std.specs.Prelude.{◌≡◌, ◌≤◌, ◌==◌, ◌&&◌, ◌||◌, not, nat_le, ℕ, Bool, true, false, List, [], ◌∷◌, ◌++◌, length, map, Option, Some, None, if◌then◌else◌}
use Rattle.std.specs.List.{list_all}
use Rattle.pipe_text.specs.declared.lexeme.Symbol.{Symbol}
use Rattle.pipe_text.specs.declared.lexeme.Symbol.TheVariants as s
use Rattle.pipe_text.specs.declared.lexeme.Lexeme.{Lexeme}
use Rattle.pipe_text.specs.declared.lexeme.Lexeme.TheVariants as x

-- a space or a tab
abbrev pub is_blank : ℕ → Bool
is_blank c = (c == 32) || (c == 9)

-- an ASCII digit
abbrev pub is_digit : ℕ → Bool
is_digit c = nat_le 48 c && nat_le c 57

-- an ASCII letter or `_`
abbrev pub is_letter : ℕ → Bool
is_letter c = (nat_le 65 c && nat_le c 90) || (nat_le 97 c && nat_le c 122) || (c == 95)

-- a letter or a digit
abbrev pub is_word : ℕ → Bool
is_word c = is_letter c || is_digit c

-- a carriage return or a line feed
abbrev pub is_break : ℕ → Bool
is_break c = (c == 13) || (c == 10)

-- what may stand in a quoted name: all but a backquote, CR and LF
abbrev pub is_name : ℕ → Bool
is_name c = not ((c == 96) || is_break c)

-- what may stand behind a backslash: `"`, `\`, `n`, `t`
abbrev pub is_escape : ℕ → Bool
is_escape c = (c == 34) || (c == 92) || (c == 110) || (c == 116)

-- what may stand in a text as it is: all but `"`, `\`, CR and LF
abbrev pub is_plain : ℕ → Bool
is_plain c = not ((c == 34) || (c == 92) || is_break c)

-- whether the place after c, which may stand there, is behind a backslash, where the place of c is or isn't
abbrev pub step : Bool → ℕ → Option Bool
step true c = if is_escape c then Some false else None
step false c = if c == 92 then Some true else if is_plain c then Some false else None

abbrev pub holds_at : Option Bool → (Bool → Bool) → Bool
holds_at None f = false
holds_at (Some b) f = f b

-- the inside of a text: plain characters and escapes, from behind a backslash or not
abbrev pub is_body : Bool → List ℕ → Bool
is_body escaped [] = not escaped
is_body escaped (c ∷ rest) = holds_at (step escaped c) (λ e. is_body e rest)

-- a token: words, quoted names without their quotes, digits, texts without their quotes, symbols
pub data Lex : Type 0 where
  Word : List ℕ → Lex
  Quoted : List ℕ → Lex
  Digits : List ℕ → Lex
  Text : List ℕ → Lex
  Sign : Symbol → Lex

-- a token as it lies in memory is seen without its place
abbrev pub view : Lexeme → Lex
view (x.Word w) = Word w.now
view (x.Quoted q) = Quoted q.now
view (x.Digits d) = Digits d.now
view (x.Text b) = Text b.now
view (x.Sign k) = Sign k

abbrev pub views : List Lexeme → List Lex
views ts = map view ts

-- how a symbol is written
abbrev pub symbol_text : Symbol → List ℕ
symbol_text s.Open = 40 ∷ []
symbol_text s.Close = 41 ∷ []
symbol_text s.Comma = 44 ∷ []
symbol_text s.Colon = 58 ∷ []
symbol_text s.Equal = 61 ∷ []
symbol_text s.Differ = 33 ∷ 61 ∷ []
symbol_text s.Less = 60 ∷ []
symbol_text s.AtMost = 60 ∷ 61 ∷ []
symbol_text s.More = 62 ∷ []
symbol_text s.AtLeast = 62 ∷ 61 ∷ []
symbol_text s.Plus = 43 ∷ []
symbol_text s.Join = 43 ∷ 43 ∷ []
symbol_text s.Minus = 45 ∷ []
symbol_text s.Arrow = 45 ∷ 62 ∷ []
symbol_text s.Times = 42 ∷ []
symbol_text s.Divide = 47 ∷ []
symbol_text s.Remainder = 37 ∷ []

-- the bytes of a token
abbrev pub spelled : Lex → List ℕ
spelled (Word w) = w
spelled (Quoted q) = 96 ∷ (q ++ 96 ∷ [])
spelled (Digits d) = d
spelled (Text b) = 34 ∷ (b ++ 34 ∷ [])
spelled (Sign k) = symbol_text k

-- the form of a word: a letter, then letters and digits
abbrev pub is_word_text : List ℕ → Bool
is_word_text [] = false
is_word_text (c ∷ w) = is_letter c && list_all is_word w

-- the form of each token
abbrev pub IsLex : Lex → Type 0
IsLex (Word []) = ⊥
IsLex (Word (c ∷ w)) = (is_letter c ≡ true) × (list_all is_word w ≡ true)
IsLex (Quoted []) = ⊥
IsLex (Quoted (c ∷ q)) = list_all is_name (c ∷ q) ≡ true
IsLex (Digits []) = ⊥
IsLex (Digits (c ∷ d)) = (is_digit c ≡ true) × (list_all is_digit d ≡ true)
IsLex (Text b) = is_body false b ≡ true
IsLex (Sign k) = Unit {0}

-- no token that stands there too is longer
abbrev pub IsLongest : Lex → List ℕ → Type 0
IsLongest t rest = (u : Lex) (more : List ℕ) → IsLex u → spelled t ++ rest ≡ spelled u ++ more → length (spelled u) ≤ length (spelled t)

-- these are the tokens of the bytes: the longest that fits is taken each time, and spaces and tabs stand between
abbrev pub Lexes : List ℕ → List Lex → Type 0
Lexes line [] = list_all is_blank line ≡ true
Lexes line (t ∷ ts) = (gap : List ℕ) × (rest : List ℕ) × (list_all is_blank gap ≡ true) × (line ≡ gap ++ (spelled t ++ rest)) × IsLex t × IsLongest t rest × Lexes rest ts
