-- So many turns are enough, and more change nothing.
use Rattle.std.proofs.Common.{◌≡◌, ◌==◌, ◌≤◌, ◌<◌, ◌+◌, ◌*◌, ◌∷◌, ◌++◌, ◌∙◌, refl, ap, inl, inr, ℕ, zero, suc, List, [], length, Option, Some, None, arith, length-append, eqb→eq, cond}
use Rattle.std.proofs.lemmas.Bool.{cases_Bool}
use Rattle.pipe_expr.specs.declared.token.Token.{Token}
use Rattle.pipe_expr.specs.declared.token.Token.TheVariants as t
use Rattle.pipe_expr.specs.declared.token.Reserved.TheVariants as r
use Rattle.pipe_text.specs.declared.lexeme.Symbol.TheVariants as m
use Rattle.pipe_expr.specs.declared.expr.Op.{Op}
use Rattle.pipe_expr.specs.Grammar.{Tree, Number, Texted, Named, Length, Valued, Inside, Negated, Joined, Reads, sign}
use Rattle.pipe_expr.specs.Reading.{Found, ◌>>=◌, op_at, atom, going, more, negation, read, expr_at}
use Rattle.pipe_expr.proofs.Sound.{From, sound, sounds}
use Rattle.pipe_expr.proofs.Complete.{Stops, complete}

-- an expression has a token
some_tokens : (e : Tree) (l : ℕ) (ts : List Token) → Reads l e ts → 0 < length ts
some_tokens (Number z) l ts h = let (n, which) = h in elim which [ inl q ↦ rw q.1 (omega arith) | inr q ↦ rw q.1 (omega arith) ]
some_tokens (Texted s) l ts h = rw h (omega arith)
some_tokens (Named w) l ts h = elim h [ inl q ↦ rw q (omega arith) | inr q ↦ rw q.1 (omega arith) ]
some_tokens (Length e) l ts h = rw h.2 (omega arith)
some_tokens (Valued e) l ts h = rw h.2 (omega arith)
some_tokens (Inside e) l ts h = rw h.2 (omega arith)
some_tokens (Negated e) l ts h = rw h.3 (omega arith)
some_tokens (Joined op a b) l ts h = rw h.5 (omega (arith, length-append h.1 (sign op ∷ h.2)))

pub shorter : (n l : ℕ) (ts rest : List Token) (e : Tree) → read n l ts ≡ Some (e, rest) → length rest < length ts
shorter n l ts rest e h =
    let f = sounds l (read n l) (sound n l) ts rest e h in
    let some = some_tokens e l f.0 f.1 in
    omega (arith, some, ap length f.2, length-append f.0 rest)

-- two readers agree on lists shorter than this
pub record Agree (f g : List Token → Found) (k : ℕ) : Type 0 where
  pub same : (ts : List Token) → length ts < k → f ts ≡ g ts
  pub less : (ts rest : List Token) (e : Tree) → g ts ≡ Some (e, rest) → length rest < length ts

more_same : (f g : List Token → Found) (l n m : ℕ) (e : Tree) (ts : List Token) → Agree f g (length ts) → length ts < n → length ts < m → more f l n e ts ≡ more g l m e ts
unfolding more
more_same f g l zero m e ts a x y = absurd (omega (arith, x))
more_same f g l (suc n) zero e ts a x y = absurd (omega (arith, y))
more_same f g l (suc n) (suc m) e [] a x y = refl
more_same f g l (suc n) (suc m) e (k ∷ ts) a x y = step (op_at l k) (g ts) refl (more_same f g l n m)
  where
    step : (o : Option Op) (found : Found) → g ts ≡ found → ((e : Tree) (ts : List Token) → Agree f g (length ts) → length ts < n → length ts < m → more f l n e ts ≡ more g l m e ts)
        → going o (Some (e, k ∷ ts)) (λ op. f ts >>= λ x. cond (l == 3) (Some (Joined op e x.0, x.1)) (more f l n (Joined op e x.0) x.1))
        ≡ going o (Some (e, k ∷ ts)) (λ op. g ts >>= λ x. cond (l == 3) (Some (Joined op e x.0, x.1)) (more g l m (Joined op e x.0) x.1))
    step None found is again = refl
    step (Some op) None is again = rw (a.same ts (omega arith), is) refl
    step (Some op) (Some (d, rest)) is again =
        let lt = a.less ts rest d is in
        let next = again (Joined op e d) rest (record { same = λ us h. a.same us (omega (arith, h, lt)); less = a.less }) (omega (arith, lt, x)) (omega (arith, lt, y)) in
        rw (a.same ts (omega arith), is, next) refl

atom_same : (f g : List Token → Found) (ts : List Token) → Agree f g (length ts) → atom f ts ≡ atom g ts
atom_same f g (t.Kept r.Len ∷ t.Sign m.Open ∷ ts) a = rw (a.same ts (omega arith)) refl
atom_same f g (t.Kept r.Len ∷ []) a = refl
atom_same f g (t.Kept r.Len ∷ k ∷ ts) a = refl
atom_same f g (t.Kept r.ToInt ∷ t.Sign m.Open ∷ ts) a = rw (a.same ts (omega arith)) refl
atom_same f g (t.Kept r.ToInt ∷ []) a = refl
atom_same f g (t.Kept r.ToInt ∷ k ∷ ts) a = refl
atom_same f g (t.Sign m.Open ∷ ts) a = rw (a.same ts (omega arith)) refl
atom_same f g (t.Quote s ∷ ts) a = refl
atom_same f g (t.Word v w ∷ ts) a = refl
atom_same f g (t.Quoted w ∷ ts) a = refl
atom_same f g [] a = refl
atom_same f g (k ∷ ts) a = refl

negation_same : (f g p q : List Token → Found) (ts : List Token) → Agree f g (length ts) → p ts ≡ q ts → negation f p ts ≡ negation g q ts
negation_same f g p q (t.Kept r.Not ∷ ts) a e = rw (a.same ts (omega arith)) refl
negation_same f g p q [] a e = e
negation_same f g p q (k ∷ ts) a e = e

pub same_turns : (n m l : ℕ) (ts : List Token) → l ≤ 6 → 8 * length ts + l < n → 8 * length ts + l < m → read n l ts ≡ read m l ts
unfolding read
same_turns zero m l ts six x y = absurd (omega (arith, x))
same_turns (suc n) zero l ts six x y = absurd (omega (arith, y))
same_turns (suc n) (suc m) zero ts six x y =
    atom_same (read n 6) (read m 6) ts (record { same = λ us h. same_turns n m 6 us (omega arith) (omega (arith, h, x)) (omega (arith, h, y)); less = λ us rest e h. shorter m 6 us rest e h })
same_turns (suc n) (suc m) (suc l) ts six x y = elim (cases_Bool (l == 3)) [
  | inl b ↦ let three : l ≡ 3 = eqb→eq l 3 (rw b tt) in
      rw b (negation_same (read n 4) (read m 4) (read n 3) (read m 3) ts
      (record { same = λ us h. same_turns n m 4 us (omega arith) (omega (arith, h, x)) (omega (arith, h, y)); less = λ us rest e h. shorter m 4 us rest e h })
      (same_turns n m 3 ts (omega arith) (omega (arith, three, x)) (omega (arith, three, y))))
  | inr b ↦ rw b (go (read m l ts) refl (same_turns n m l ts (omega (arith, six)) (omega (arith, x)) (omega (arith, y)))
      (record { same = λ us h. same_turns n m l us (omega (arith, six)) (omega (arith, h, x)) (omega (arith, h, y)); less = λ us rest e h. shorter m l us rest e h }))
]
  where
    go : (found : Found) → read m l ts ≡ found → read n l ts ≡ read m l ts → Agree (read n l) (read m l) (length ts)
        → (read n l ts >>= λ x. more (read n l) (suc l) n x.0 x.1) ≡ (read m l ts >>= λ x. more (read m l) (suc l) m x.0 x.1)
    go None is same a = rw (same, is) refl
    go (Some (e, rest)) is same a =
        let lt = a.less ts rest e is in
        let next = more_same (read n l) (read m l) (suc l) n m e rest (record { same = λ us h. a.same us (omega (arith, h, lt)); less = a.less }) (omega (arith, lt, x)) (omega (arith, lt, y)) in
        rw (same, is) next

pub expr-sound : (ts rest : List Token) (e : Tree) → expr_at ts ≡ Some (e, rest) → From 6 e ts rest
unfolding expr_at
expr-sound ts rest e h = sounds 6 (read (8 * length ts + 7) 6) (sound (8 * length ts + 7) 6) ts rest e h

pub expr-again : (e : Tree) (used rest : List Token) → Reads 6 e used → Stops 6 rest → expr_at (used ++ rest) ≡ Some (e, rest)
unfolding expr_at
expr-again e used rest r s =
    let d = (complete e 6 used r).done rest s in
    let n = d.0 + (8 * length (used ++ rest) + 7) in
    same_turns (8 * length (used ++ rest) + 7) n 6 (used ++ rest) (omega arith) (omega arith) (omega arith) ∙ d.1 n (omega arith)
