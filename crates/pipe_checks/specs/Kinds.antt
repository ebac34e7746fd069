-- The kind of an expression, and what may be named in it.
use Rattle.std.specs.Prelude.{◌==◌, ◌&&◌, ◌||◌, not, nat_le, ℕ, ℤ, pos, negsuc, Bool, true, false, List, [], ◌∷◌, Option, Some, None, if◌then◌else◌}
use Rattle.std.specs.List.{list_any}
use Rattle.par_laws.specs.Text.{text_eq}
use Rattle.par_rows.specs.declared.schema.Column.{Column}
use Rattle.par_rows.specs.declared.schema.ColumnKind.{ColumnKind}
use Rattle.par_rows.specs.declared.schema.ColumnKind.TheVariants as sorts
use Rattle.pipe_expr.specs.declared.expr.Op.{Op}
use Rattle.pipe_expr.specs.declared.expr.Op.TheVariants as o
use Rattle.pipe_expr.specs.Grammar.{Tree, Number, Texted, Named, Length, Valued, Inside, Negated, Joined}
use Rattle.pipe_expr.specs.Depth.{depth}
use Rattle.pipe_checks.specs.declared.uses.Want.{Want}
use Rattle.pipe_checks.specs.declared.uses.Want.TheVariants as w
use Rattle.pipe_checks.specs.declared.kinds.ValueKind.{ValueKind}
use Rattle.pipe_checks.specs.declared.kinds.ValueKind.TheVariants as k
use Rattle.pipe_checks.specs.declared.kinds.Class.{Class}
use Rattle.pipe_checks.specs.declared.kinds.Class.TheVariants as c

-- the kind of the first column of a name
abbrev pub kind_named : List Column → List ℕ → Option ColumnKind
kind_named [] w = None
kind_named (d ∷ cs) w = if text_eq d.name w then Some d.kind else kind_named cs w

-- whether a column of this name is there
abbrev pub has : List Column → List ℕ → Bool
has [] w = false
has (d ∷ cs) w = text_eq d.name w || has cs w

abbrev pub of_column : Option ColumnKind → Option ValueKind
of_column None = None
of_column (Some sorts.Int) = Some k.Number
of_column (Some sorts.Text) = Some k.Text

abbrev pub is_text : Option ColumnKind → Bool
is_text (Some sorts.Text) = true
is_text _ = false

abbrev pub is_kind : ValueKind → ValueKind → Bool
is_kind k.Number k.Number = true
is_kind k.Text k.Text = true
is_kind k.Truth k.Truth = true
is_kind _ _ = false

-- what a form gives that takes one kind
abbrev pub taking : ValueKind → Option ValueKind → ValueKind → Option ValueKind
taking wanted None gives = None
taking wanted (Some found) gives = if is_kind wanted found then Some gives else None

abbrev pub class_of : Op → Class
class_of o.Or = c.Logic
class_of o.And = c.Logic
class_of o.Equal = c.Compare
class_of o.Differ = c.Compare
class_of o.Less = c.Compare
class_of o.AtMost = c.Compare
class_of o.More = c.Compare
class_of o.AtLeast = c.Compare
class_of o.Plus = c.Reckon
class_of o.Minus = c.Reckon
class_of o.Times = c.Reckon
class_of o.Divide = c.Reckon
class_of o.Remainder = c.Reckon
class_of o.Join = c.Append

-- what an operator gives for its sides: truths, numbers or texts, and a truth for two numbers or two texts that are compared
abbrev pub gives_kind : Class → ValueKind → ValueKind → Option ValueKind
gives_kind c.Logic k.Truth k.Truth = Some k.Truth
gives_kind c.Compare k.Number k.Number = Some k.Truth
gives_kind c.Compare k.Text k.Text = Some k.Truth
gives_kind c.Reckon k.Number k.Number = Some k.Number
gives_kind c.Append k.Text k.Text = Some k.Text
gives_kind _ _ _ = None

abbrev pub both_sides : Class → Option ValueKind → Option ValueKind → Option ValueKind
both_sides d (Some a) (Some b) = gives_kind d a b
both_sides d _ _ = None

-- the kind of an expression, none where an operand has the wrong one
abbrev pub kind_of : List Column → Tree → Option ValueKind
kind_of cs (Number z) = Some k.Number
kind_of cs (Texted s) = Some k.Text
kind_of cs (Named n) = of_column (kind_named cs n)
kind_of cs (Length e) = taking k.Text (kind_of cs e) k.Number
kind_of cs (Valued e) = taking k.Text (kind_of cs e) k.Number
kind_of cs (Inside e) = kind_of cs e
kind_of cs (Negated e) = taking k.Truth (kind_of cs e) k.Truth
kind_of cs (Joined op a b) = both_sides (class_of op) (kind_of cs a) (kind_of cs b)

abbrev pub is_append : Class → Bool
is_append c.Append = true
is_append _ = false

-- whether `++` stands in it, at any depth
abbrev pub appends : Tree → Bool
appends (Number z) = false
appends (Texted s) = false
appends (Named n) = false
appends (Length e) = appends e
appends (Valued e) = appends e
appends (Inside e) = appends e
appends (Negated e) = appends e
appends (Joined op a b) = is_append (class_of op) || (appends a || appends b)

abbrev pub is_wanted : Want → Option ValueKind → Bool
is_wanted w.Number (Some k.Number) = true
is_wanted w.Truth (Some k.Truth) = true
is_wanted w.Shown (Some k.Number) = true
is_wanted w.Shown (Some k.Text) = true
is_wanted _ _ = false

abbrev pub may_append : Want → Bool
may_append w.Truth = false
may_append _ = true

-- it has the kind that is wanted, and no `++` where that is a truth
abbrev pub fits : List Column → Want → Tree → Bool
fits cs want e = is_wanted want (kind_of cs e) && (may_append want || not (appends e))

-- each column that it names is there
abbrev pub known : List Column → Want → Tree → Bool
known cs want (Number z) = true
known cs want (Texted s) = true
known cs want (Named n) = has cs n
known cs want (Length e) = known cs want e
known cs want (Valued e) = known cs want e
known cs want (Inside e) = known cs want e
known cs want (Negated e) = known cs want e
known cs want (Joined op a b) = known cs want a && known cs want b

abbrev pub is_zero : ℤ → Bool
is_zero (pos n) = n == 0
is_zero (negsuc n) = false

abbrev pub is_zero_int : Tree → Bool
is_zero_int (Number z) = is_zero z
is_zero_int _ = false

abbrev pub divides : Op → Bool
divides o.Divide = true
divides o.Remainder = true
divides _ = false

-- no divisor is the int 0
abbrev pub divides_well : Want → Tree → Bool
divides_well want (Number z) = true
divides_well want (Texted s) = true
divides_well want (Named n) = true
divides_well want (Length e) = divides_well want e
divides_well want (Valued e) = divides_well want e
divides_well want (Inside e) = divides_well want e
divides_well want (Negated e) = divides_well want e
divides_well want (Joined op a b) = not (divides op && is_zero_int b) && (divides_well want a && divides_well want b)

-- it is 64 deep at most
abbrev pub is_shallow : Want → Tree → Bool
is_shallow want e = nat_le (depth e) 64
