-- A space stops every token, and so does the end of a line.
use Rattle.std.proofs.Common.{◌≡◌, ◌==◌, ◌∷◌, ◌++◌, sym, refl, ap, inl, inr, ℕ, List, [], append-nil, true, false, eqb→eq}
use Rattle.std.specs.List.{list_all}
use Rattle.std.proofs.lemmas.Bool.{cases_Bool}
use Rattle.pipe_text.specs.declared.lexeme.Symbol.{Symbol}
use Rattle.pipe_text.specs.declared.lexeme.Symbol.TheVariants as s
use Rattle.pipe_text.specs.Token.{Lex, Word, Quoted, Digits, Text, Sign, IsLex, IsLongest, is_digit, is_word}
use Rattle.pipe_text.specs.Reading.{run}
use Rattle.pipe_text.proofs.Bytes.{and_true, no_eq, run_until}
use Rattle.pipe_text.proofs.Munch.{digits_longest, quoted_longest, some_name, symbol_longest, text_longest, word_longest}

sign_space : (k : Symbol) (rest : List ℕ) → IsLongest (Sign k) (32 ∷ rest)
sign_space s.Open rest = symbol_longest 40 (32 ∷ rest) (32 ∷ rest) s.Open refl refl refl
sign_space s.Close rest = symbol_longest 41 (32 ∷ rest) (32 ∷ rest) s.Close refl refl refl
sign_space s.Comma rest = symbol_longest 44 (32 ∷ rest) (32 ∷ rest) s.Comma refl refl refl
sign_space s.Colon rest = symbol_longest 58 (32 ∷ rest) (32 ∷ rest) s.Colon refl refl refl
sign_space s.Equal rest = symbol_longest 61 (32 ∷ rest) (32 ∷ rest) s.Equal refl refl refl
sign_space s.Differ rest = symbol_longest 33 (61 ∷ 32 ∷ rest) (32 ∷ rest) s.Differ refl refl refl
sign_space s.Less rest = symbol_longest 60 (32 ∷ rest) (32 ∷ rest) s.Less refl refl refl
sign_space s.AtMost rest = symbol_longest 60 (61 ∷ 32 ∷ rest) (32 ∷ rest) s.AtMost refl refl refl
sign_space s.More rest = symbol_longest 62 (32 ∷ rest) (32 ∷ rest) s.More refl refl refl
sign_space s.AtLeast rest = symbol_longest 62 (61 ∷ 32 ∷ rest) (32 ∷ rest) s.AtLeast refl refl refl
sign_space s.Plus rest = symbol_longest 43 (32 ∷ rest) (32 ∷ rest) s.Plus refl refl refl
sign_space s.Join rest = symbol_longest 43 (43 ∷ 32 ∷ rest) (32 ∷ rest) s.Join refl refl refl
sign_space s.Minus rest = symbol_longest 45 (32 ∷ rest) (32 ∷ rest) s.Minus refl refl refl
sign_space s.Arrow rest = symbol_longest 45 (62 ∷ 32 ∷ rest) (32 ∷ rest) s.Arrow refl refl refl
sign_space s.Times rest = symbol_longest 42 (32 ∷ rest) (32 ∷ rest) s.Times refl refl refl
sign_space s.Divide rest = symbol_longest 47 (32 ∷ rest) (32 ∷ rest) s.Divide refl refl refl
sign_space s.Remainder rest = symbol_longest 37 (32 ∷ rest) (32 ∷ rest) s.Remainder refl refl refl

sign_last : (k : Symbol) → IsLongest (Sign k) []
sign_last s.Open = symbol_longest 40 ([]) [] s.Open refl refl refl
sign_last s.Close = symbol_longest 41 ([]) [] s.Close refl refl refl
sign_last s.Comma = symbol_longest 44 ([]) [] s.Comma refl refl refl
sign_last s.Colon = symbol_longest 58 ([]) [] s.Colon refl refl refl
sign_last s.Equal = symbol_longest 61 ([]) [] s.Equal refl refl refl
sign_last s.Differ = symbol_longest 33 (61 ∷ []) [] s.Differ refl refl refl
sign_last s.Less = symbol_longest 60 ([]) [] s.Less refl refl refl
sign_last s.AtMost = symbol_longest 60 (61 ∷ []) [] s.AtMost refl refl refl
sign_last s.More = symbol_longest 62 ([]) [] s.More refl refl refl
sign_last s.AtLeast = symbol_longest 62 (61 ∷ []) [] s.AtLeast refl refl refl
sign_last s.Plus = symbol_longest 43 ([]) [] s.Plus refl refl refl
sign_last s.Join = symbol_longest 43 (43 ∷ []) [] s.Join refl refl refl
sign_last s.Minus = symbol_longest 45 ([]) [] s.Minus refl refl refl
sign_last s.Arrow = symbol_longest 45 (62 ∷ []) [] s.Arrow refl refl refl
sign_last s.Times = symbol_longest 42 ([]) [] s.Times refl refl refl
sign_last s.Divide = symbol_longest 47 ([]) [] s.Divide refl refl refl
sign_last s.Remainder = symbol_longest 37 ([]) [] s.Remainder refl refl refl

run_all : (p : ℕ → _) (w : List ℕ) → list_all p w ≡ true → run p w ≡ w
run_all p [] a = refl
run_all p (c ∷ w) a = let b = and_true (p c) (list_all p w) a in rw b.0 (ap (λ (x : List ℕ). c ∷ x) (run_all p w b.1))

pub space : (t : Lex) (rest : List ℕ) → IsLex t → IsLongest t (32 ∷ rest)
space (Word []) rest l = absurd l
space (Word (c ∷ w)) rest l =
    let u = run_until is_word w 32 rest l.1 refl in
    rw u.0 at (word_longest c (w ++ 32 ∷ rest) (32 ∷ rest) l.0 (rw u.0 refl))
space (Quoted q) rest l = quoted_longest q (32 ∷ rest) (some_name q l)
space (Digits []) rest l = absurd l
space (Digits (c ∷ w)) rest l =
    let u = run_until is_digit w 32 rest l.1 refl in
    rw u.0 at (digits_longest c (w ++ 32 ∷ rest) (32 ∷ rest) l.0 (rw u.0 refl))
space (Text b) rest l = text_longest b (32 ∷ rest) l
space (Sign k) rest l = sign_space k rest

pub last : (t : Lex) → IsLex t → IsLongest t []
last (Word []) l = absurd l
last (Word (c ∷ w)) l =
    let u = run_all is_word w l.1 in
    rw u at (word_longest c w [] l.0 (rw u (sym (append-nil w))))
last (Quoted q) l = quoted_longest q [] (some_name q l)
last (Digits []) l = absurd l
last (Digits (c ∷ w)) l =
    let u = run_all is_digit w l.1 in
    rw u at (digits_longest c w [] l.0 (rw u (sym (append-nil w))))
last (Text b) l = text_longest b [] l
last (Sign k) l = sign_last k

digit_no_arrow : (c : ℕ) → is_digit c ≡ true → (c == 62) ≡ false
digit_no_arrow c h = no_eq c 62 (λ e. let bad = rw e at h in cc bad)

-- digits behind a minus leave it alone
pub minus : (c : ℕ) (rest : List ℕ) → is_digit c ≡ true → IsLongest (Sign s.Minus) (c ∷ rest)
minus c rest h = symbol_longest 45 (c ∷ rest) (c ∷ rest) s.Minus refl (rw (digit_no_arrow c h) refl) refl
