-- What a line says, and its first faults.
use Rattle.std.specs.Prelude.{◌≡◌, ◌≤◌, ◌<◌, ◌≢◌, ◌⊎◌, ◌==◌, ℕ, Bool, true, List, [], ◌∷◌, length, MatchBool, if◌then◌else◌}
use Rattle.std.specs.Str.{IsUtf8}
use Rattle.pipe_text.specs.declared.line.LineFault.{LineFault}
use Rattle.pipe_text.specs.declared.line.LineFault.TheVariants as faults
use Rattle.pipe_text.specs.Token.{Lex, Word, Quoted, Digits, Text, Sign, Lexes, is_blank}

-- a blank line or a comment: nothing but spaces and tabs, perhaps up to a `#`
abbrev pub is_quiet : List ℕ → Bool
is_quiet [] = true
is_quiet (c ∷ rest) = if is_blank c then is_quiet rest else c == 35

-- the tokens of a line: none on a blank line or a comment
abbrev pub Tokens : List ℕ → List Lex → Type 0
Tokens line ts = MatchBool (is_quiet line) (ts ≡ []) (Lexes line ts)

-- the line is UTF-8 and has these tokens, 512 at most
pub record ReadsAs (line : List ℕ) (ts : List Lex) : Type 0 where
  pub utf8 : IsUtf8 line
  pub tokens : Tokens line ts
  pub few : length ts ≤ 512

-- the fault is the line's, and the line has none that comes before it: bytes that are no UTF-8, some of the line that is no token, more than 512 tokens
abbrev pub IsRefused : List ℕ → LineFault → Type 0
IsRefused line faults.Utf8 = ¬ IsUtf8 line
IsRefused line faults.Token = IsUtf8 line × ((ts : List Lex) → ¬ Tokens line ts)
IsRefused line faults.Long = IsUtf8 line × (ts : List Lex) × Tokens line ts × (512 < length ts)
IsRefused line faults.Memory = Unit {0}

-- the bytes of a token between its marks
abbrev pub inside : Lex → List ℕ
inside (Word w) = w
inside (Quoted q) = q
inside (Digits d) = d
inside (Text b) = b
inside (Sign k) = []

-- each token's bytes are UTF-8
abbrev pub AreUtf8 : List Lex → Type 0
AreUtf8 [] = Unit {0}
AreUtf8 (t ∷ ts) = IsUtf8 (inside t) × AreUtf8 ts

-- the line has tokens or a fault
abbrev pub IsSettled : List ℕ → Type 0
IsSettled line = ((ts : List Lex) × ReadsAs line ts) ⊎ ((e : LineFault) × (e ≢ faults.Memory) × IsRefused line e)

-- the line has one list of tokens at most, at most one fault, and not both
pub record IsUnique (line : List ℕ) : Type 0 where
  pub reading : (ts us : List Lex) → ReadsAs line ts → ReadsAs line us → ts ≡ us
  pub fault : (e f : LineFault) → e ≢ faults.Memory → f ≢ faults.Memory → IsRefused line e → IsRefused line f → e ≡ f
  pub apart : (ts : List Lex) (e : LineFault) → e ≢ faults.Memory → ReadsAs line ts → ¬ IsRefused line e

-- why bytes that are no comment gave no list of tokens
abbrev pub HasNoTokens : List ℕ → LineFault → Type 0
HasNoTokens line faults.Utf8 = ⊥
HasNoTokens line faults.Token = (ts : List Lex) → ¬ Lexes line ts
HasNoTokens line faults.Long = (ts : List Lex) × Lexes line ts × (512 < length ts)
HasNoTokens line faults.Memory = Unit {0}
