-- The tokens of items, and which items have tokens that read back.
use Rattle.std.proofs.Common.{◌≡◌, ◌≤◌, ◌<◌, ◌⊎◌, ◌+◌, ◌==◌, ◌^◌, ◌∷◌, ◌++◌, ◌∙◌, sym, refl, ap, inl, inr, ℕ, suc, ℤ, pos, negsuc, List, [], length, map, Bool, true, false, arith, append_assoc, length-append, Option, Some, None}
use Rattle.std.specs.Prelude.{◌&&◌, is_none, codes, encode_utf8_all, if◌then◌else◌}
use Rattle.std.specs.List.{flat_map}
use Rattle.std.specs.Fmt.{decimal}
use Rattle.std.specs.Str.{IsUtf8, chars, all_scalars}
use Rattle.std.proofs.lemmas.List.{map-append}
use Rattle.std.proofs.lemmas.Grind.{flat_map-append}
use Rattle.pipe_text.specs.declared.lexeme.Symbol.TheVariants as m
use Rattle.pipe_text.specs.Token.{Lex, Word, Quoted, Digits, Text, Sign, IsLex, is_body, is_word_text}
use Rattle.pipe_text.specs.Line.{inside}
use Rattle.pipe_tokens.specs.Words.{reserved_of}
use Rattle.pipe_tokens.specs.Meaning.{all_meant, meant}
use Rattle.pipe_expr.specs.declared.token.Token.{Token}
use Rattle.pipe_print.specs.Items.{Item, Fixed, Mark, Name, Int, Quote, escaped, is_plain}

abbrev pub name_lex : ℕ → List ℕ → Lex
name_lex v w = if is_plain v w then Word w else Quoted w

abbrev pub item_lexes : ℕ → Item → List Lex
item_lexes v (Fixed w) = Word w ∷ []
item_lexes v (Mark k) = Sign k ∷ []
item_lexes v (Name w) = name_lex v (encode_utf8_all w) ∷ []
item_lexes v (Int (pos n)) = Digits (decimal n) ∷ []
item_lexes v (Int (negsuc n)) = Sign m.Minus ∷ Digits (decimal (suc n)) ∷ []
item_lexes v (Quote s) = Text (escaped (encode_utf8_all s)) ∷ []

abbrev pub lexes : ℕ → List Item → List Lex
lexes v is = flat_map (item_lexes v) is

-- what the tokens mean
abbrev pub toks : ℕ → List Item → List Token
toks v is = all_meant v (lexes v is)

-- a name that can be written; a text; an int of 64 bits
abbrev pub CanName : ℕ → List ℕ → Type 0
CanName v w = (all_scalars w ≡ true) × ((is_plain v (encode_utf8_all w) ≡ true) ⊎ IsLex (Quoted (encode_utf8_all w)))

abbrev pub CanText : List ℕ → Type 0
CanText s = (all_scalars s ≡ true) × (is_body false (escaped (encode_utf8_all s)) ≡ true)

abbrev pub CanInt : ℤ → Type 0
CanInt (pos n) = n < 2 ^ 63
CanInt (negsuc n) = n < 2 ^ 63

abbrev pub IsGood : ℕ → Item → Type 0
IsGood v (Fixed w) = is_word_text w ≡ true
IsGood v (Mark k) = Unit {0}
IsGood v (Name w) = CanName v w
IsGood v (Int z) = CanInt z
IsGood v (Quote s) = CanText s

abbrev pub AreGood : ℕ → List Item → Type 0
AreGood v [] = Unit {0}
AreGood v (i ∷ is) = IsGood v i × AreGood v is

pub good_append : (v : ℕ) (a b : List Item) → AreGood v a → AreGood v b → AreGood v (a ++ b)
good_append v [] b x y = y
good_append v (i ∷ a) b x y = (x.0, good_append v a b x.1 y)

pub lexes_append : (v : ℕ) (a b : List Item) → lexes v (a ++ b) ≡ lexes v a ++ lexes v b
lexes_append v a b = flat_map-append (item_lexes v) a b

pub toks_append : (v : ℕ) (a b : List Item) → toks v (a ++ b) ≡ toks v a ++ toks v b
toks_append v a b = ap (all_meant v) (lexes_append v a b) ∙ map-append (meant v) (lexes v a) (lexes v b)

pub count_append : (v : ℕ) (a b : List Item) → length (lexes v (a ++ b)) ≡ length (lexes v a) + length (lexes v b)
count_append v a b = ap length (lexes_append v a b) ∙ length-append (lexes v a) (lexes v b)

-- a token of a line
abbrev pub IsMade : ℕ → Token → Type 0
IsMade v t = (u : Lex) × IsLex u × IsUtf8 (inside u) × (meant v u ≡ t)

abbrev pub AreMade : ℕ → List Token → Type 0
AreMade v [] = Unit {0}
AreMade v (t ∷ ts) = IsMade v t × AreMade v ts

pub made_front : (v : ℕ) (a b : List Token) → AreMade v (a ++ b) → AreMade v a
made_front v [] b h = tt
made_front v (t ∷ a) b h = (h.0, made_front v a b h.1)

pub made_back : (v : ℕ) (a b : List Token) → AreMade v (a ++ b) → AreMade v b
made_back v [] b h = h
made_back v (t ∷ a) b h = made_back v a b h.1

-- items whose tokens are of a relation, and no more than these
pub record Canonical (Is : List Token → Type 0) (v : ℕ) (is : List Item) (n : ℕ) : Type 0 where
  pub reads : Is (toks v is)
  pub good : AreGood v is
  pub few : length (lexes v is) ≤ n
