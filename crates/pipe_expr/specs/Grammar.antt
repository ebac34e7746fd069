-- Which tokens read as which expression.
use Rattle.std.specs.Prelude.{◌≡◌, ◌≤◌, ◌-◌, ◌⊎◌, ◌^◌, ℕ, List, [], ◌∷◌, ◌++◌, ℤ, pos, neg_ℤ, Option, Some, None, nat_lt, nat_le, if◌then◌else◌, Bool, true, false}
use Rattle.pipe_expr.specs.declared.token.Token.{Token}
use Rattle.pipe_expr.specs.declared.token.Token.TheVariants as t
use Rattle.pipe_expr.specs.declared.token.Reserved.TheVariants as r
use Rattle.pipe_expr.specs.declared.token.Verb.{Verb}
use Rattle.pipe_text.specs.declared.lexeme.Symbol.TheVariants as m
use Rattle.pipe_expr.specs.declared.expr.Op.{Op}
use Rattle.pipe_expr.specs.declared.expr.Op.TheVariants as o
use Rattle.pipe_expr.specs.declared.expr.Expr.{Expr}
use Rattle.pipe_expr.specs.declared.expr.Expr.TheVariants as x

-- an expression without where its parts lie in memory
pub data Tree : Type 0 where
  Number : ℤ → Tree
  Texted : List ℕ → Tree
  Named : List ℕ → Tree
  Length : Tree → Tree
  Valued : Tree → Tree
  Inside : Tree → Tree
  Negated : Tree → Tree
  Joined : Op → Tree → Tree → Tree

abbrev pub view : Expr → Tree
view (x.Int z) = Number z
view (x.Text s) = Texted s
view (x.Column w) = Named w
view (x.Len' p e) = Length (view e)
view (x.ToInt' p e) = Valued (view e)
view (x.Group' p e) = Inside (view e)
view (x.Not' p e) = Negated (view e)
view (x.Pair' op p a q b) = Joined op (view a) (view b)

-- how loosely an operator binds, and what may stand on its left; 4 is for `not`
abbrev pub level : Op → ℕ
level o.Times = 1
level o.Divide = 1
level o.Remainder = 1
level o.Plus = 2
level o.Minus = 2
level o.Join = 2
level o.Equal = 3
level o.Differ = 3
level o.Less = 3
level o.AtMost = 3
level o.More = 3
level o.AtLeast = 3
level o.And = 5
level o.Or = 6

abbrev pub left_level : Op → ℕ
left_level o.Times = 1
left_level o.Divide = 1
left_level o.Remainder = 1
left_level o.Plus = 2
left_level o.Minus = 2
left_level o.Join = 2
left_level o.Equal = 2
left_level o.Differ = 2
left_level o.Less = 2
left_level o.AtMost = 2
left_level o.More = 2
left_level o.AtLeast = 2
left_level o.And = 5
left_level o.Or = 6

abbrev pub sign : Op → Token
sign o.Times = t.Sign m.Times
sign o.Divide = t.Sign m.Divide
sign o.Remainder = t.Sign m.Remainder
sign o.Plus = t.Sign m.Plus
sign o.Minus = t.Sign m.Minus
sign o.Join = t.Sign m.Join
sign o.Equal = t.Sign m.Equal
sign o.Differ = t.Sign m.Differ
sign o.Less = t.Sign m.Less
sign o.AtMost = t.Sign m.AtMost
sign o.More = t.Sign m.More
sign o.AtLeast = t.Sign m.AtLeast
sign o.And = t.Kept r.And
sign o.Or = t.Kept r.Or

-- the number that digits, perhaps after a minus, make, where it is within 64 bits
unfoldable pub int_of : Bool → ℕ → Option ℤ
int_of false n = if nat_lt n (2 ^ 63) then Some (pos n) else None
int_of true n = if nat_le n (2 ^ 63) then Some (neg_ℤ (pos n)) else None

abbrev pub IsInt : ℤ → List Token → Type 0
IsInt z ts = (n : ℕ) × (((int_of false n ≡ Some z) × (ts ≡ t.Digits n ∷ [])) ⊎ ((int_of true n ≡ Some z) × (ts ≡ t.Sign m.Minus ∷ t.Digits n ∷ [])))

-- a word that isn't reserved, or a quoted name
abbrev pub IsName : List ℕ → List Token → Type 0
IsName w ts = (ts ≡ t.Quoted w ∷ []) ⊎ ((v : Verb) × (ts ≡ t.Word v w ∷ []))

-- these tokens read as this expression, where operators may bind as loosely as `most`; repeated ones group to the left
abbrev pub Reads : ℕ → Tree → List Token → Type 0
Reads most (Number z) ts = IsInt z ts
Reads most (Texted s) ts = ts ≡ t.Quote s ∷ []
Reads most (Named w) ts = IsName w ts
Reads most (Length e) ts = (inner : List Token) × Reads 6 e inner × (ts ≡ t.Kept r.Len ∷ t.Sign m.Open ∷ (inner ++ t.Sign m.Close ∷ []))
Reads most (Valued e) ts = (inner : List Token) × Reads 6 e inner × (ts ≡ t.Kept r.ToInt ∷ t.Sign m.Open ∷ (inner ++ t.Sign m.Close ∷ []))
Reads most (Inside e) ts = (inner : List Token) × Reads 6 e inner × (ts ≡ t.Sign m.Open ∷ (inner ++ t.Sign m.Close ∷ []))
Reads most (Negated e) ts = (4 ≤ most) × (inner : List Token) × Reads 4 e inner × (ts ≡ t.Kept r.Not ∷ inner)
Reads most (Joined op a b) ts = (level op ≤ most) × (left : List Token) × (right : List Token)
    × Reads (left_level op) a left × Reads (level op - 1) b right × (ts ≡ left ++ sign op ∷ right)
