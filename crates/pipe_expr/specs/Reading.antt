-- Reading from left to right.
use Rattle.std.specs.Prelude.{◌≡◌, ◌==◌, ◌+◌, ◌*◌, length, ℕ, zero, suc, true, false, if◌then◌else◌, List, [], ◌∷◌, Option, Some, None, Result, Ok, Err, ℤ}
use Rattle.std.specs.Borrow.{Bor}
use Rattle.pipe_expr.specs.declared.token.Token.{Token}
use Rattle.pipe_expr.specs.declared.token.Token.TheVariants as t
use Rattle.pipe_expr.specs.declared.token.Reserved.TheVariants as r
use Rattle.pipe_text.specs.declared.lexeme.Symbol.TheVariants as m
use Rattle.pipe_expr.specs.declared.expr.Op.{Op}
use Rattle.pipe_expr.specs.declared.expr.Op.TheVariants as o
use Rattle.pipe_expr.specs.declared.expr.Expr.{Expr}
use Rattle.pipe_expr.specs.declared.parser.ParseError.{ParseError}
use Rattle.pipe_expr.specs.declared.parser.ParseError.TheVariants as errors
use Rattle.pipe_expr.specs.Grammar.{Tree, Number, Texted, Named, Length, Valued, Inside, Negated, Joined, view, level, int_of}

-- what was read, and the tokens after it
abbrev pub Found : Type 0
Found = Option (Tree × List Token)

infixl 10 ◌>>=◌
abbrev pub ◌>>=◌ : {A B : Type 0} → Option A → (A → Option B) → Option B
None >>= f = None
(Some x) >>= f = f x

-- what a function returned, seen by view, is what reading gives, unless memory ran out
abbrev pub Fails : {Y : Type 0} → ParseError → Option Y → Type 0
Fails errors.Shape read = read ≡ None
Fails errors.Memory read = Unit {0}

abbrev pub Gives : {X Y : Type 0} → (X → Y) → Result X ParseError → Option Y → Type 0
Gives view (Ok x) read = read ≡ Some (view x)
Gives view (Err e) read = Fails e read

abbrev pub seen : Expr × Bor (List Token) → Tree × List Token
seen x = (view x.0, x.1.now)

-- the operator that a token is
abbrev pub op_of : Token → Option Op
op_of (t.Sign m.Times) = Some o.Times
op_of (t.Sign m.Divide) = Some o.Divide
op_of (t.Sign m.Remainder) = Some o.Remainder
op_of (t.Sign m.Plus) = Some o.Plus
op_of (t.Sign m.Minus) = Some o.Minus
op_of (t.Sign m.Join) = Some o.Join
op_of (t.Sign m.Equal) = Some o.Equal
op_of (t.Sign m.Differ) = Some o.Differ
op_of (t.Sign m.Less) = Some o.Less
op_of (t.Sign m.AtMost) = Some o.AtMost
op_of (t.Sign m.More) = Some o.More
op_of (t.Sign m.AtLeast) = Some o.AtLeast
op_of (t.Kept r.And) = Some o.And
op_of (t.Kept r.Or) = Some o.Or
op_of _ = None

abbrev pub of_level : ℕ → Option Op → Option Op
of_level l None = None
of_level l (Some op) = if level op == l then Some op else None

-- the operator of a level that a token is
unfoldable pub op_at : ℕ → Token → Option Op
op_at l k = of_level l (op_of k)

abbrev pub with_rest : List Token → Option ℤ → Option (ℤ × List Token)
with_rest rest None = None
with_rest rest (Some z) = Some (z, rest)

abbrev pub below_zero : List Token → Option (ℤ × List Token)
below_zero (t.Digits n ∷ rest) = with_rest rest (int_of true n)
below_zero _ = None

-- the int at the front
unfoldable pub int_at : List Token → Option (ℤ × List Token)
int_at (t.Digits n ∷ rest) = with_rest rest (int_of false n)
int_at (t.Sign m.Minus ∷ rest) = below_zero rest
int_at _ = None

-- the name at the front
unfoldable pub name_at : List Token → Option (List ℕ × List Token)
name_at (t.Word v w ∷ rest) = Some (w, rest)
name_at (t.Quoted w ∷ rest) = Some (w, rest)
name_at _ = None

abbrev pub closed : (Tree → Tree) → Tree × List Token → Found
closed wrap (e, t.Sign m.Close ∷ rest) = Some (wrap e, rest)
closed wrap _ = None

-- what stands in parentheses
abbrev pub opened : (Tree → Tree) → (List Token → Found) → List Token → Found
opened wrap inner (t.Sign m.Open ∷ rest) = inner rest >>= closed wrap
opened wrap inner _ = None

abbrev pub atom : (List Token → Found) → List Token → Found
atom inner (t.Kept r.Len ∷ rest) = opened Length inner rest
atom inner (t.Kept r.ToInt ∷ rest) = opened Valued inner rest
atom inner (t.Sign m.Open ∷ rest) = inner rest >>= closed Inside
atom inner (t.Quote s ∷ rest) = Some (Texted s, rest)
atom inner (t.Word v w ∷ rest) = Some (Named w, rest)
atom inner (t.Quoted w ∷ rest) = Some (Named w, rest)
atom inner ts = int_at ts >>= λ x. Some (Number x.0, x.1)

abbrev pub going : Option Op → Found → (Op → Found) → Found
going None here go = here
going (Some op) here go = go op

-- an operator of the level and its right side, again and again; a comparison once
unfoldable pub more : (List Token → Found) → ℕ → ℕ → Tree → List Token → Found
more side l zero e ts = None
more side l (suc n) e [] = Some (e, [])
more side l (suc n) e (k ∷ rest) =
    going (op_at l k) (Some (e, k ∷ rest)) (λ op. side rest >>= λ x. if l == 3 then Some (Joined op e x.0, x.1) else more side l n (Joined op e x.0) x.1)

-- perhaps a `not` in front
abbrev pub negation : (List Token → Found) → (List Token → Found) → List Token → Found
negation again below (t.Kept r.Not ∷ rest) = again rest >>= λ x. Some (Negated x.0, x.1)
negation again below ts = below ts

-- the longest expression of a level at the front, in at most so many turns
unfoldable pub read : ℕ → ℕ → List Token → Found
read zero l ts = None
read (suc n) zero ts = atom (read n 6) ts
read (suc n) (suc l) ts = if l == 3 then negation (read n 4) (read n 3) ts else (read n l ts >>= λ x. more (read n l) (suc l) n x.0 x.1)

-- the longest expression at the front
unfoldable pub expr_at : List Token → Found
expr_at ts = read (8 * length ts + 7) 6 ts
