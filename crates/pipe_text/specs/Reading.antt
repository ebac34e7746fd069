-- The tokens of a line, read from left to right.
use Rattle.std.specs.Prelude.{◌==◌, ◌-◌, ◌&&◌, not, nat_lt, ℕ, zero, suc, Bool, false, List, [], ◌∷◌, ◌++◌, length, Option, Some, None, if◌then◌else◌, slice_get}
use Rattle.pipe_text.specs.declared.lexeme.Symbol.{Symbol}
use Rattle.pipe_text.specs.declared.lexeme.Symbol.TheVariants as s
use Rattle.pipe_text.specs.Token.{Lex, Word, Quoted, Digits, Text, Sign, is_blank, is_digit, is_letter, is_name, is_word, spelled, step, symbol_text}

abbrev pub is_next : Option ℕ → ℕ → Bool
is_next None d = false
is_next (Some c) d = c == d

-- the symbols, those of two characters first
abbrev pub symbols : List Symbol
symbols = s.Differ ∷ s.AtMost ∷ s.AtLeast ∷ s.Join ∷ s.Arrow ∷ s.Open ∷ s.Close ∷ s.Comma ∷ s.Colon ∷ s.Equal ∷ s.Less ∷ s.More ∷ s.Plus ∷ s.Minus ∷ s.Times ∷ s.Divide ∷ s.Remainder ∷ []

-- a text of one or two characters stands at this character and the next
abbrev pub begins : List ℕ → ℕ → Option ℕ → Bool
begins [] c next = false
begins (a ∷ []) c next = c == a
begins (a ∷ b ∷ []) c next = (c == a) && is_next next b
begins (a ∷ b ∷ d ∷ more) c next = false

-- the first of the symbols that stands there
abbrev pub first_symbol : List Symbol → ℕ → Option ℕ → Option Symbol
first_symbol [] c next = None
first_symbol (k ∷ ks) c next = if begins (symbol_text k) c next then Some k else first_symbol ks c next

-- the bytes at the front that pass, and those behind them
abbrev pub run : (ℕ → Bool) → List ℕ → List ℕ
run p [] = []
run p (c ∷ rest) = if p c then c ∷ run p rest else []

abbrev pub behind : (ℕ → Bool) → List ℕ → List ℕ
behind p [] = []
behind p (c ∷ rest) = if p c then behind p rest else c ∷ rest

abbrev pub named : List ℕ → Option Lex
named [] = None
named (c ∷ q) = Some (Quoted (c ∷ q))

-- the quoted name behind a backquote
abbrev pub quoted_at : List ℕ → Option Lex
quoted_at rest = if is_next (slice_get (behind is_name rest) 0) 96 then named (run is_name rest) else None

abbrev pub onto : ℕ → Option (List ℕ) → Option (List ℕ)
onto c None = None
onto c (Some b) = Some (c ∷ b)

abbrev pub at_state : Option Bool → (Bool → Option (List ℕ)) → Option (List ℕ)
at_state None f = None
at_state (Some b) f = f b

-- the inside of a text up to its end
abbrev pub body_at : Bool → List ℕ → Option (List ℕ)
body_at escaped [] = None
body_at escaped (c ∷ rest) = if not escaped && (c == 34) then Some [] else at_state (step escaped c) (λ e. onto c (body_at e rest))

abbrev pub texted : Option (List ℕ) → Option Lex
texted None = None
texted (Some b) = Some (Text b)

abbrev pub signed : Option Symbol → Option Lex
signed None = None
signed (Some k) = Some (Sign k)

-- the token at the front of a character and those after it
unfoldable pub first : ℕ → List ℕ → Option Lex
first c rest =
    if is_letter c then Some (Word (c ∷ run is_word rest))
    else if is_digit c then Some (Digits (c ∷ run is_digit rest))
    else if c == 96 then quoted_at rest
    else if c == 34 then texted (body_at false rest)
    else signed (first_symbol symbols c (slice_get rest 0))

-- the token at the front of a line
abbrev pub front_of : List ℕ → Option Lex
front_of [] = None
front_of (c ∷ rest) = first c rest

abbrev pub after : Option Lex → (Lex → Option (List Lex)) → Option (List Lex)
after None f = None
after (Some t) f = f t

abbrev pub with_first : Lex → Option (List Lex) → Option (List Lex)
with_first t None = None
with_first t (Some ts) = Some (t ∷ ts)

-- the tokens of a line, of which so many bytes belong to the token before
unfoldable pub lex : ℕ → List ℕ → Option (List Lex)
lex skip [] = Some []
lex (suc skip) (c ∷ rest) = lex skip rest
lex zero (c ∷ rest) =
    if is_blank c then lex zero rest
    else after (first c rest) (λ t. with_first t (lex (length (spelled t) - 1) rest))

-- the first 512 tokens, so many of which were found before
abbrev pub kept_more : ℕ → List Lex → Lex → List Lex
kept_more count kept t = if nat_lt count 512 then kept ++ t ∷ [] else kept

-- the tokens before, and then those of the rest
abbrev pub joined : List Lex → Option (List Lex) → Option (List Lex)
joined before None = None
joined before (Some ts) = Some (before ++ ts)
