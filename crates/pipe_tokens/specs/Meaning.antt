-- What the tokens of a line mean.
use Rattle.std.specs.Prelude.{◌==◌, ◌+◌, ◌-◌, ◌*◌, ℕ, min, Bool, true, false, List, [], ◌∷◌, map, Option, Some, None, if◌then◌else◌}
use Rattle.std.specs.Str.{chars}
use Rattle.pipe_text.specs.Token.{Lex, Word, Quoted, Digits, Text, Sign}
use Rattle.pipe_expr.specs.declared.token.Token.{Token}
use Rattle.pipe_expr.specs.declared.token.Token.TheVariants as t
use Rattle.pipe_expr.specs.declared.token.Reserved.{Reserved}
use Rattle.pipe_tokens.specs.Words.{reserved_of, verb_of}

-- the number that digits write when they follow those of n
abbrev pub value_after : ℕ → List ℕ → ℕ
value_after n [] = n
value_after n (c ∷ cs) = value_after (n * 10 + (c - 48)) cs

-- a number, with 2^64 - 1 for each that is greater
abbrev pub capped : ℕ → ℕ
capped n = min n 18446744073709551615

-- what a character behind a backslash stands for: a line feed for `n`, a tab for `t`, else itself
abbrev pub escape_of : ℕ → ℕ
escape_of c = if c == 110 then 10 else if c == 116 then 9 else c

-- the characters of a text with its escapes read, from behind a backslash or not
abbrev pub unescaped : Bool → List ℕ → List ℕ
unescaped escaped [] = []
unescaped true (c ∷ cs) = escape_of c ∷ unescaped false cs
unescaped false (c ∷ cs) = if c == 92 then unescaped true cs else c ∷ unescaped false cs

abbrev pub word_meant : List ℕ → Option Reserved → Token
word_meant w (Some k) = t.Kept k
word_meant w None = t.Word (verb_of w) (chars w)

-- what a token means in a version
abbrev pub meant : ℕ → Lex → Token
meant version (Word w) = word_meant w (reserved_of version w)
meant version (Quoted q) = t.Quoted (chars q)
meant version (Digits d) = t.Digits (capped (value_after 0 d))
meant version (Text b) = t.Quote (unescaped false (chars b))
meant version (Sign k) = t.Sign k

abbrev pub all_meant : ℕ → List Lex → List Token
all_meant version ts = map (meant version) ts
