-- One step of the parser, over plain data.
use Rattle.std.proofs.Common.{◌≡◌, ◌==◌, ◌≤◌, ◌<◌, ◌+◌, ◌-◌, ◌*◌, ◌∷◌, refl, ap, inl, inr, true, false, eqb→eq, eq-eqb, ℕ, zero, suc, List, [], length, Option, Some, None, Result, arith}
use Rattle.std.proofs.lemmas.Bool.{cases_Bool}
use Rattle.pipe_expr.specs.declared.token.Token.{Token}
use Rattle.pipe_expr.specs.declared.token.Token.TheVariants as t
use Rattle.pipe_expr.specs.declared.token.Reserved.TheVariants as r
use Rattle.pipe_expr.specs.declared.expr.Op.{Op}
use Rattle.pipe_expr.specs.declared.parser.ParseError.{ParseError}
use Rattle.pipe_expr.specs.declared.parser.ParseError.TheVariants as errors
use Rattle.pipe_expr.specs.Grammar.{Tree, Joined}
use Rattle.pipe_expr.specs.Reading.{Found, Fails, Gives, ◌>>=◌, op_at, atom, more, negation, read}

fails_bind : {A B : Type 0} (e : ParseError) (r : Option A) (f : A → Option B) → Fails e r → Fails e (r >>= f)
fails_bind errors.Shape r f h = rw h refl
fails_bind errors.Memory r f h = tt

pub fails_some : {A B : Type 0} (e : ParseError) (r : Option A) (a : A) (b : B) → Fails e r → r ≡ Some a → Fails e (Some b)
fails_some errors.Shape r a b h is = cc (h, is)
fails_some errors.Memory r a b h is = tt

pub level_zero : {X : Type 0} (got : Result X ParseError) (v : X → Tree × List Token) (l : ℕ) (ts : List Token) → l ≡ 0
    → ((n : ℕ) → 8 * length ts ≤ n → Gives v got (atom (read n 6) ts)) → (n : ℕ) → 8 * length ts + l < n → Gives v got (read n l ts)
unfolding read
level_zero got v l ts z h zero lt = absurd (omega (arith, lt))
level_zero got v l ts z h (suc n) lt = rw z (h n (omega (arith, lt)))

pub differs : (l k : ℕ) → (l ≡ k → ⊥) → (l == k) ≡ false
differs l k h = elim (cases_Bool (l == k)) [
  | inl e ↦ absurd (h (eqb→eq l k (rw e tt)))
  | inr e ↦ e
]

suc_differs : (l : ℕ) → (suc l ≡ 4 → ⊥) → (l == 3) ≡ false
suc_differs l h = differs l 3 (λ e. h (ap suc e))

pub level_four : {X : Type 0} (got : Result X ParseError) (v : X → Tree × List Token) (l : ℕ) (ts : List Token) → l ≡ 4
    → ((n : ℕ) → 8 * length ts + 3 < n → Gives v got (negation (read n 4) (read n 3) ts)) → (n : ℕ) → 8 * length ts + l < n → Gives v got (read n l ts)
unfolding read
level_four got v l ts z h zero lt = absurd (omega (arith, lt))
level_four got v l ts z h (suc n) lt = rw z (h n (omega (arith, lt, z)))

pub level_fails : (e : ParseError) (l : ℕ) (ts : List Token) → (l ≡ 0 → ⊥) → (l ≡ 4 → ⊥)
    → ((n : ℕ) → 8 * length ts + (l - 1) < n → Fails e (read n (l - 1) ts)) → (n : ℕ) → 8 * length ts + l < n → Fails e (read n l ts)
unfolding read
level_fails e zero ts nz nf h n lt = absurd (nz refl)
level_fails e (suc l) ts nz nf h zero lt = absurd (omega (arith, lt))
level_fails e (suc l) ts nz nf h (suc n) lt =
    let z : suc l - 1 ≡ l = omega arith in
    rw (suc_differs l nf) (fails_bind e (read n l ts) _ (rw z at (h n (omega (arith, lt)))))

pub level_goes : {X : Type 0} (got : Result X ParseError) (v : X → Tree × List Token) (l : ℕ) (ts : List Token) (e : Tree) (rest : List Token) → (l ≡ 0 → ⊥) → (l ≡ 4 → ⊥) → length rest < length ts
    → ((n : ℕ) → 8 * length ts + (l - 1) < n → read n (l - 1) ts ≡ Some (e, rest))
    → ((n m : ℕ) → 8 * length rest ≤ n → length rest < m → Gives v got (more (read n (l - 1)) l m e rest))
    → (n : ℕ) → 8 * length ts + l < n → Gives v got (read n l ts)
unfolding read
level_goes got v zero ts e rest nz nf less h g n lt = absurd (nz refl)
level_goes got v (suc l) ts e rest nz nf less h g zero lt = absurd (omega (arith, lt))
level_goes got v (suc l) ts e rest nz nf less h g (suc n) lt =
    let z : suc l - 1 ≡ l = omega arith in
    let first = rw z at (h n (omega (arith, lt))) in
    rw (suc_differs l nf, first) (rw z at (g n n (omega (arith, lt, less)) (omega (arith, lt, less))))

pub negation_fails : (x : ParseError) (ts rest : List Token) → ts ≡ t.Kept r.Not ∷ rest → ((n : ℕ) → 8 * length rest + 4 < n → Fails x (read n 4 rest)) → (n : ℕ) → 8 * length ts + 3 < n → Fails x (negation (read n 4) (read n 3) ts)
negation_fails x ts rest w f n lt = let count : length ts ≡ suc (length rest) = ap length w in rw w (fails_bind x (read n 4 rest) _ (f n (omega (arith, lt, count))))

pub chain_ends : (side : List Token → Found) (l m : ℕ) (e : Tree) (ts : List Token) → length ts ≡ 0 → length ts < m → more side l m e ts ≡ Some (e, ts)
unfolding more
chain_ends side l zero e ts z lt = absurd (omega (arith, lt))
chain_ends side l (suc m) e [] z lt = refl
chain_ends side l (suc m) e (k ∷ ts) z lt = let bad : suc (length ts) ≡ 0 = z in absurd (omega (arith, bad))

pub chain_stops : (side : List Token → Found) (l m : ℕ) (e : Tree) (ts : List Token) (k : Token) (rest : List Token) → ts ≡ k ∷ rest → None ≡ op_at l k → length ts < m → more side l m e ts ≡ Some (e, ts)
unfolding more
chain_stops side l zero e ts k rest w not_op lt = absurd (omega (arith, lt))
chain_stops side l (suc m) e ts k rest w not_op lt = rw (w, ← not_op) refl

pub chain_fails : (x : ParseError) (side : List Token → Found) (l m : ℕ) (e : Tree) (ts : List Token) (k : Token) (rest : List Token) (op : Op) → ts ≡ k ∷ rest → Some op ≡ op_at l k → Fails x (side rest) → length ts < m → Fails x (more side l m e ts)
unfolding more
chain_fails x side l zero e ts k rest op w is_op f lt = absurd (omega (arith, lt))
chain_fails x side l (suc m) e ts k rest op w is_op f lt = rw (w, ← is_op) (fails_bind x (side rest) _ f)

pub chain_goes : {X : Type 0} (got : Result X ParseError) (v : X → Tree × List Token) (side : List Token → Found) (l m : ℕ) (e : Tree) (ts : List Token) (k : Token) (rest : List Token) (op : Op) (right both : Tree) (after : List Token)
    → (l ≡ 3 → ⊥) → ts ≡ k ∷ rest → Some op ≡ op_at l k → side rest ≡ Some (right, after) → Joined op e right ≡ both
    → ((m : ℕ) → length after < m → Gives v got (more side l m both after)) → length after < length rest → length rest + 1 ≡ length ts → length ts < m → Gives v got (more side l m e ts)
unfolding more
chain_goes got v side l zero e ts k rest op right both after nt w is_op r b g less count lt = absurd (omega (arith, lt))
chain_goes got v side l (suc m) e ts k rest op right both after nt w is_op r b g less count lt =
    let next = g m (omega (arith, less, count, lt)) in
    rw (w, ← is_op, r, b, differs l 3 nt) next

-- a comparison once
pub chain_once : (side : List Token → Found) (l m : ℕ) (e : Tree) (ts : List Token) (k : Token) (rest : List Token) (op : Op) (right both : Tree) (after : List Token)
    → l ≡ 3 → ts ≡ k ∷ rest → Some op ≡ op_at l k → side rest ≡ Some (right, after) → Joined op e right ≡ both → length ts < m → more side l m e ts ≡ Some (both, after)
unfolding more
chain_once side l zero e ts k rest op right both after three w is_op r b lt = absurd (omega (arith, lt))
chain_once side l (suc m) e ts k rest op right both after three w is_op r b lt = let yes : (l == 3) ≡ true = eq-eqb l 3 three in rw (w, ← is_op, r, b, yes) refl
