-- The symbols.
use Rattle.std.proofs.Common.{◌≡◌, ◌≤◌, ◌∷◌, ◌++◌, ◌∙◌, ◌==◌, sym, refl, ap, inl, inr, ℕ, List, [], length, Option, Some, None, arith, true, false, eqb→eq, slice_get}
use Rattle.std.specs.List.{list_all}
use Rattle.std.specs.Prelude.{nat_lt}
use Rattle.std.proofs.lemmas.Bool.{cases_Bool}
use Rattle.pipe_text.specs.declared.lexeme.Symbol.{Symbol}
use Rattle.pipe_text.specs.declared.lexeme.Symbol.TheVariants as s
use Rattle.pipe_text.specs.Token.{symbol_text}
use Rattle.pipe_text.specs.Reading.{begins, first_symbol, is_next, symbols}
use Rattle.pipe_text.proofs.Bytes.{Other, and_true, cons_inj, kind, some_inj}
use Rattle.pipe_text.specs.Token.{is_blank}

-- a symbol's first character
pub symbol_cons : (k : Symbol) → (d : ℕ) × (w : List ℕ) × (symbol_text k ≡ d ∷ w) × (kind d ≡ Other) × (is_blank d ≡ false)
symbol_cons s.Open = (40, [], refl, refl, refl)
symbol_cons s.Close = (41, [], refl, refl, refl)
symbol_cons s.Comma = (44, [], refl, refl, refl)
symbol_cons s.Colon = (58, [], refl, refl, refl)
symbol_cons s.Equal = (61, [], refl, refl, refl)
symbol_cons s.Differ = (33, 61 ∷ [], refl, refl, refl)
symbol_cons s.Less = (60, [], refl, refl, refl)
symbol_cons s.AtMost = (60, 61 ∷ [], refl, refl, refl)
symbol_cons s.More = (62, [], refl, refl, refl)
symbol_cons s.AtLeast = (62, 61 ∷ [], refl, refl, refl)
symbol_cons s.Plus = (43, [], refl, refl, refl)
symbol_cons s.Join = (43, 43 ∷ [], refl, refl, refl)
symbol_cons s.Minus = (45, [], refl, refl, refl)
symbol_cons s.Arrow = (45, 62 ∷ [], refl, refl, refl)
symbol_cons s.Times = (42, [], refl, refl, refl)
symbol_cons s.Divide = (47, [], refl, refl, refl)
symbol_cons s.Remainder = (37, [], refl, refl, refl)

-- a symbol that stands in front is found, or a longer one
pub symbol_there : (k : Symbol) (c : ℕ) (r more : List ℕ) → c ∷ r ≡ symbol_text k ++ more → (j : Symbol) × (first_symbol symbols c (slice_get r 0) ≡ Some j) × (length (symbol_text k) ≤ length (symbol_text j))
symbol_there s.Open c r more e = let h = cons_inj c 40 r more e in (s.Open, rw h.0 refl, omega arith)
symbol_there s.Close c r more e = let h = cons_inj c 41 r more e in (s.Close, rw h.0 refl, omega arith)
symbol_there s.Comma c r more e = let h = cons_inj c 44 r more e in (s.Comma, rw h.0 refl, omega arith)
symbol_there s.Colon c r more e = let h = cons_inj c 58 r more e in (s.Colon, rw h.0 refl, omega arith)
symbol_there s.Equal c r more e = let h = cons_inj c 61 r more e in (s.Equal, rw h.0 refl, omega arith)
symbol_there s.Differ c r more e = let h = cons_inj c 33 r (61 ∷ more) e in (s.Differ, rw (h.0, h.1) refl, omega arith)
symbol_there s.Less c r more e = let h = cons_inj c 60 r more e in elim (cases_Bool (is_next (slice_get r 0) 61)) [
  | inl n ↦ (s.AtMost, rw (h.0, n) refl, omega arith)
  | inr n ↦ (s.Less, rw (h.0, n) refl, omega arith)
]
symbol_there s.AtMost c r more e = let h = cons_inj c 60 r (61 ∷ more) e in (s.AtMost, rw (h.0, h.1) refl, omega arith)
symbol_there s.More c r more e = let h = cons_inj c 62 r more e in elim (cases_Bool (is_next (slice_get r 0) 61)) [
  | inl n ↦ (s.AtLeast, rw (h.0, n) refl, omega arith)
  | inr n ↦ (s.More, rw (h.0, n) refl, omega arith)
]
symbol_there s.AtLeast c r more e = let h = cons_inj c 62 r (61 ∷ more) e in (s.AtLeast, rw (h.0, h.1) refl, omega arith)
symbol_there s.Plus c r more e = let h = cons_inj c 43 r more e in elim (cases_Bool (is_next (slice_get r 0) 43)) [
  | inl n ↦ (s.Join, rw (h.0, n) refl, omega arith)
  | inr n ↦ (s.Plus, rw (h.0, n) refl, omega arith)
]
symbol_there s.Join c r more e = let h = cons_inj c 43 r (43 ∷ more) e in (s.Join, rw (h.0, h.1) refl, omega arith)
symbol_there s.Minus c r more e = let h = cons_inj c 45 r more e in elim (cases_Bool (is_next (slice_get r 0) 62)) [
  | inl n ↦ (s.Arrow, rw (h.0, n) refl, omega arith)
  | inr n ↦ (s.Minus, rw (h.0, n) refl, omega arith)
]
symbol_there s.Arrow c r more e = let h = cons_inj c 45 r (62 ∷ more) e in (s.Arrow, rw (h.0, h.1) refl, omega arith)
symbol_there s.Times c r more e = let h = cons_inj c 42 r more e in (s.Times, rw h.0 refl, omega arith)
symbol_there s.Divide c r more e = let h = cons_inj c 47 r more e in (s.Divide, rw h.0 refl, omega arith)
symbol_there s.Remainder c r more e = let h = cons_inj c 37 r more e in (s.Remainder, rw h.0 refl, omega arith)

found_begins : (ks : List Symbol) (c : ℕ) (next : Option ℕ) (k : Symbol) → first_symbol ks c next ≡ Some k → begins (symbol_text k) c next ≡ true
found_begins [] c next k h = cc h
found_begins (j ∷ ks) c next k h = elim (cases_Bool (begins (symbol_text j) c next)) [
  | inl b ↦ let same : j ≡ k = some_inj j k (rw b at h) in rw (← same) b
  | inr b ↦ found_begins ks c next k (rw b at h)
]

next_is : (r : List ℕ) (d : ℕ) → is_next (slice_get r 0) d ≡ true → (more : List ℕ) × (r ≡ d ∷ more)
next_is [] d h = cc h
next_is (c ∷ r) d h = (r, ap (λ (x : ℕ). x ∷ r) (eqb→eq c d (rw h tt)))

two_stand : (a b c : ℕ) (r more : List ℕ) → c ≡ a → r ≡ b ∷ more → c ∷ r ≡ a ∷ b ∷ more
two_stand a b c r more x y = cc

stands : (w : List ℕ) (c : ℕ) (r : List ℕ) → begins w c (slice_get r 0) ≡ true → (more : List ℕ) × (c ∷ r ≡ w ++ more)
stands [] c r h = cc h
stands (a ∷ []) c r h = (r, ap (λ (x : ℕ). x ∷ r) (eqb→eq c a (rw h tt)))
stands (a ∷ b ∷ []) c r h =
    let both = and_true (c == a) (is_next (slice_get r 0) b) h in
    let q = next_is r b both.1 in
    (q.0, two_stand a b c r q.0 (eqb→eq c a (rw both.0 tt)) q.1)
stands (a ∷ b ∷ d ∷ more) c r h = cc h

-- the symbol that is found stands in front
pub symbol_stands : (c : ℕ) (r : List ℕ) (k : Symbol) → first_symbol symbols c (slice_get r 0) ≡ Some k → (more : List ℕ) × (c ∷ r ≡ symbol_text k ++ more)
symbol_stands c r k h = stands (symbol_text k) c r (found_begins symbols c (slice_get r 0) k h)

symbol_back : List ℕ → Option Symbol
symbol_back [] = None
symbol_back (c ∷ r) = first_symbol symbols c (slice_get r 0)

symbol_back_is : (k : Symbol) → symbol_back (symbol_text k) ≡ Some k
unfolding symbol_back
symbol_back_is s.Open = refl
symbol_back_is s.Close = refl
symbol_back_is s.Comma = refl
symbol_back_is s.Colon = refl
symbol_back_is s.Equal = refl
symbol_back_is s.Differ = refl
symbol_back_is s.Less = refl
symbol_back_is s.AtMost = refl
symbol_back_is s.More = refl
symbol_back_is s.AtLeast = refl
symbol_back_is s.Plus = refl
symbol_back_is s.Join = refl
symbol_back_is s.Minus = refl
symbol_back_is s.Arrow = refl
symbol_back_is s.Times = refl
symbol_back_is s.Divide = refl
symbol_back_is s.Remainder = refl

-- one text is one symbol
pub symbol_same : (i j : Symbol) → symbol_text i ≡ symbol_text j → i ≡ j
symbol_same i j e = some_inj i j (sym (symbol_back_is i) ∙ ap symbol_back e ∙ symbol_back_is j)

-- symbols are ASCII
pub symbol_ascii : (k : Symbol) → list_all (λ c. nat_lt c 128) (symbol_text k) ≡ true
symbol_ascii s.Open = refl
symbol_ascii s.Close = refl
symbol_ascii s.Comma = refl
symbol_ascii s.Colon = refl
symbol_ascii s.Equal = refl
symbol_ascii s.Differ = refl
symbol_ascii s.Less = refl
symbol_ascii s.AtMost = refl
symbol_ascii s.More = refl
symbol_ascii s.AtLeast = refl
symbol_ascii s.Plus = refl
symbol_ascii s.Join = refl
symbol_ascii s.Minus = refl
symbol_ascii s.Arrow = refl
symbol_ascii s.Times = refl
symbol_ascii s.Divide = refl
symbol_ascii s.Remainder = refl
