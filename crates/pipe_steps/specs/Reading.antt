-- Reading a line from left to right.
use Rattle.std.specs.Prelude.{◌≡◌, ◌==◌, ℕ, ℤ, pos, zero, suc, Bool, true, false, List, [], ◌∷◌, length, Option, Some, None}
use Rattle.pipe_expr.specs.declared.token.Token.{Token}
use Rattle.pipe_expr.specs.declared.token.Token.TheVariants as t
use Rattle.pipe_expr.specs.declared.token.Reserved.TheVariants as r
use Rattle.pipe_expr.specs.declared.token.Verb.TheVariants as v
use Rattle.pipe_text.specs.declared.lexeme.Symbol.TheVariants as m
use Rattle.pipe_expr.specs.Reading.{◌>>=◌, int_at, name_at, expr_at}
use Rattle.par_rows.specs.declared.schema.Column.{Column}
use Rattle.par_rows.specs.declared.schema.ColumnKind.{ColumnKind}
use Rattle.par_rows.specs.declared.schema.ColumnKind.TheVariants as sorts
use Rattle.pipe_steps.specs.declared.joint.Joint.{Joint}
use Rattle.pipe_steps.specs.declared.joint.Joint.TheVariants as j
use Rattle.pipe_steps.specs.declared.source.Kind.{Kind}
use Rattle.pipe_steps.specs.declared.source.Kind.TheVariants as kinds
use Rattle.pipe_steps.specs.declared.step.Running.{Running}
use Rattle.pipe_steps.specs.declared.step.Running.TheVariants as runnings
use Rattle.pipe_steps.specs.Said.{Text, Field, Total, Said}
use Rattle.pipe_steps.specs.Forms.{Part, AName, AnInt, AnExpr, AText, AStride, AKind, ASort, ARunning, Columns, Fields, Keys, Totals, Value, Slot, Fixed, A, Takes, Form, column_form, field_form, key_form, total_form, source_form, line_form}

abbrev pub is_joint : Joint → Token → Bool
is_joint j.As (t.Kept r.As) = true
is_joint j.When (t.Kept r.When) = true
is_joint j.From (t.Kept r.From) = true
is_joint j.Until (t.Kept r.Until) = true
is_joint j.By (t.Kept r.By) = true
is_joint j.Split (t.Kept r.Split) = true
is_joint j.Range (t.Kept r.Range) = true
is_joint j.Comma (t.Sign m.Comma) = true
is_joint j.Colon (t.Sign m.Colon) = true
is_joint j.Equal (t.Sign m.Equal) = true
is_joint j.Arrow (t.Sign m.Arrow) = true
is_joint j.Two (t.Digits n) = n == 2
is_joint _ _ = false

abbrev pub past : Bool → List Token → Option (List Token)
past true rest = Some rest
past false rest = None

unfoldable pub joint_at : Joint → List Token → Option (List Token)
joint_at k [] = None
joint_at k (token ∷ rest) = past (is_joint k token) rest

abbrev pub stride_behind : List Token → Option (List Token) → Option (ℤ × List Token)
stride_behind ts None = Some (pos 1, ts)
stride_behind ts (Some rest) = int_at rest

unfoldable pub stride_at : List Token → Option (ℤ × List Token)
stride_at ts = stride_behind ts (joint_at j.By ts)

unfoldable pub text_at : List Token → Option (Text × List Token)
text_at (t.Quote s ∷ rest) = Some (s, rest)
text_at _ = None

unfoldable pub kind_at : List Token → Option (Kind × List Token)
kind_at (t.Word v.Array n ∷ rest) = Some (kinds.Array, rest)
kind_at (t.Word v.Vector n ∷ rest) = Some (kinds.Vector, rest)
kind_at _ = None

unfoldable pub running_at : List Token → Option (Running × List Token)
running_at (t.Word v.Sum n ∷ rest) = Some (runnings.Sum, rest)
running_at (t.Word v.Product n ∷ rest) = Some (runnings.Product, rest)
running_at _ = None

unfoldable pub sort_at : List Token → Option (ColumnKind × List Token)
sort_at (t.Kept r.Int ∷ rest) = Some (sorts.Int, rest)
sort_at (t.Kept r.Text ∷ rest) = Some (sorts.Text, rest)
sort_at _ = None

-- a reader of each part
abbrev pub ReaderOf : Type 0
ReaderOf = (p : Part) → List Token → Option (Value p × List Token)

abbrev pub simple_at : ReaderOf
simple_at AName ts = name_at ts
simple_at AnInt ts = int_at ts
simple_at AnExpr ts = expr_at ts
simple_at AText ts = text_at ts
simple_at AStride ts = stride_at ts
simple_at AKind ts = kind_at ts
simple_at ASort ts = sort_at ts
simple_at ARunning ts = running_at ts
simple_at Columns ts = None
simple_at Fields ts = None
simple_at Keys ts = None
simple_at Totals ts = None

-- the slots filled from the front
abbrev pub fill : {R : Type 0} → ReaderOf → (slots : List Slot) → Takes R slots → List Token → Option (R × List Token)
fill reader [] made ts = Some (made, ts)
fill reader (Fixed k ∷ slots) made ts = joint_at k ts >>= fill reader slots made
fill reader (A p ∷ slots) made ts = reader p ts >>= λ x. fill reader slots (made x.0) x.1

abbrev pub form_at : {R : Type 0} → ReaderOf → Option (Form R) → List Token → Option (R × List Token)
form_at reader None ts = None
form_at reader (Some form) ts = fill reader form.0 form.1 ts

abbrev pub with_first : {V : Type 0} → V → List V × List Token → Option (List V × List Token)
with_first x (xs, rest) = Some (x ∷ xs, rest)

abbrev pub behind_comma : {V : Type 0} → V → List Token → (List Token → Option (List V × List Token)) → Option (List Token) → Option (List V × List Token)
behind_comma x rest again None = Some (x ∷ [], rest)
behind_comma x rest again (Some after) = again after >>= with_first x

-- one or more with commas between, in at most so many turns
unfoldable pub many : {V : Type 0} → (List Token → Option (V × List Token)) → ℕ → List Token → Option (List V × List Token)
many one zero ts = None
many one (suc n) ts = one ts >>= λ x. behind_comma x.0 x.1 (many one n) (joint_at j.Comma x.1)

unfoldable pub column_at : List Token → Option (Column × List Token)
column_at ts = fill simple_at column_form.0 column_form.1 ts

unfoldable pub field_at : List Token → Option (Field × List Token)
field_at ts = fill simple_at field_form.0 field_form.1 ts

unfoldable pub key_at : List Token → Option (Field × List Token)
key_at ts = fill simple_at key_form.0 key_form.1 ts

unfoldable pub total_at : List Token → Option (Total × List Token)
total_at (t.Word w n ∷ rest) = form_at simple_at (total_form w) rest
total_at _ = None

abbrev pub part_at : ReaderOf
part_at AName ts = name_at ts
part_at AnInt ts = int_at ts
part_at AnExpr ts = expr_at ts
part_at AText ts = text_at ts
part_at AStride ts = stride_at ts
part_at AKind ts = kind_at ts
part_at ASort ts = sort_at ts
part_at ARunning ts = running_at ts
part_at Columns ts = many column_at (length ts) ts
part_at Fields ts = many field_at (length ts) ts
part_at Keys ts = many key_at (length ts) ts
part_at Totals ts = many total_at (length ts) ts

abbrev pub whole : Said × List Token → Option Said
whole (x, []) = Some x
whole (x, k ∷ ts) = None

-- what a line says
unfoldable pub said : List Token → Option Said
said (t.Word w n ∷ rest) = form_at part_at (line_form w) rest >>= whole
said (t.Kept r.From ∷ t.Kept w ∷ rest) = form_at part_at (source_form w) rest >>= whole
said _ = None
