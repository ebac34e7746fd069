-- The forms of lines: each is a list of slots and what its parts make. Which tokens say which line.
use Rattle.std.specs.Prelude.{◌≡◌, ◌⊎◌, ◌++◌, ℕ, ℤ, pos, List, [], ◌∷◌, Option, Some, None}
use Rattle.pipe_expr.specs.declared.token.Token.{Token}
use Rattle.pipe_expr.specs.declared.token.Token.TheVariants as t
use Rattle.pipe_expr.specs.declared.token.Reserved.{Reserved}
use Rattle.pipe_expr.specs.declared.token.Reserved.TheVariants as r
use Rattle.pipe_expr.specs.declared.token.Verb.{Verb}
use Rattle.pipe_expr.specs.declared.token.Verb.TheVariants as v
use Rattle.pipe_text.specs.declared.lexeme.Symbol.TheVariants as m
use Rattle.pipe_expr.specs.Grammar.{Tree, Reads, IsInt, IsName}
use Rattle.par_rows.specs.declared.schema.Column.{Column}
use Rattle.par_rows.specs.declared.schema.ColumnKind.{ColumnKind}
use Rattle.par_rows.specs.declared.schema.ColumnKind.TheVariants as sorts
use Rattle.pipe_steps.specs.declared.joint.Joint.{Joint}
use Rattle.pipe_steps.specs.declared.joint.Joint.TheVariants as j
use Rattle.pipe_steps.specs.declared.source.Kind.{Kind}
use Rattle.pipe_steps.specs.declared.source.Kind.TheVariants as kinds
use Rattle.pipe_steps.specs.declared.step.Running.{Running}
use Rattle.pipe_steps.specs.declared.step.Running.TheVariants as runnings
use Rattle.pipe_steps.specs.Said.{Text, Field, How, Counted, Summed, Multiplied, Least, Greatest, Chained, Total, Origin, Middle, End, Said, Second, Begins, Par, Goes, Ends}
use Rattle.pipe_steps.specs.Said as x

-- ---- slots

abbrev pub joint_token : Joint → Token
joint_token j.As = t.Kept r.As
joint_token j.When = t.Kept r.When
joint_token j.From = t.Kept r.From
joint_token j.Until = t.Kept r.Until
joint_token j.By = t.Kept r.By
joint_token j.Split = t.Kept r.Split
joint_token j.Range = t.Kept r.Range
joint_token j.Comma = t.Sign m.Comma
joint_token j.Colon = t.Sign m.Colon
joint_token j.Equal = t.Sign m.Equal
joint_token j.Arrow = t.Sign m.Arrow
joint_token j.Two = t.Digits 2

pub data Part : Type 0 where
  AName : Part
  AnInt : Part
  AnExpr : Part
  AText : Part
  AStride : Part
  AKind : Part
  ASort : Part
  ARunning : Part
  Columns : Part
  Fields : Part
  Keys : Part
  Totals : Part

abbrev pub Value : Part → Type 0
Value AName = Text
Value AnInt = ℤ
Value AnExpr = Tree
Value AText = Text
Value AStride = ℤ
Value AKind = Kind
Value ASort = ColumnKind
Value ARunning = Running
Value Columns = List Column
Value Fields = List Field
Value Keys = List Field
Value Totals = List Total

pub data Slot : Type 0 where
  Fixed : Joint → Slot
  A : Part → Slot

-- what makes a thing of the parts
abbrev pub Takes : Type 0 → List Slot → Type 0
Takes R [] = R
Takes R (Fixed k ∷ slots) = Takes R slots
Takes R (A p ∷ slots) = Value p → Takes R slots

abbrev pub Form : Type 0 → Type 0
Form R = (slots : List Slot) × Takes R slots

-- ---- the forms

-- `name:int`
abbrev pub column_form : Form Column
column_form = (A AName ∷ Fixed j.Colon ∷ A ASort ∷ [], λ n s. record { name = n; kind = s })

-- `name = E`
abbrev pub field_form : Form Field
field_form = (A AName ∷ Fixed j.Equal ∷ A AnExpr ∷ [], λ n e. (n, e))

-- `E as name`
abbrev pub key_form : Form Field
key_form = (A AnExpr ∷ Fixed j.As ∷ A AName ∷ [], λ e n. (n, e))

-- `.. E as name`, an aggregate behind its first word
abbrev pub valued_form : (Tree → How) → Form Total
valued_form how = (A AnExpr ∷ Fixed j.As ∷ A AName ∷ [], λ e n. (how e, n))

abbrev pub total_form : Verb → Option (Form Total)
total_form v.Count = Some (Fixed j.As ∷ A AName ∷ [], λ n. (Counted, n))
total_form v.Sum = Some (valued_form Summed)
total_form v.Product = Some (valued_form Multiplied)
total_form v.Min = Some (valued_form Least)
total_form v.Max = Some (valued_form Greatest)
total_form v.MkString = Some (A AnExpr ∷ A AText ∷ Fixed j.As ∷ A AName ∷ [], λ e s n. (Chained e s, n))
total_form _ = None

-- a source, behind `from` and its word
abbrev pub source_form : Reserved → Option (Form Said)
source_form r.Csv = Some (A Columns ∷ [], λ cs. Begins (x.Csv cs))
source_form r.Range = Some (A AnInt ∷ Fixed j.Until ∷ A AnInt ∷ A AStride ∷ [], λ a b c. Begins (x.Range a b c))
source_form _ = None

-- `.. E`, a line behind its first word
abbrev pub with_expr : (Tree → Said) → Option (Form Said)
with_expr made = Some (A AnExpr ∷ [], made)

-- a line of one expression, behind its first word
abbrev pub expr_form : Verb → Option (Form Said)
expr_form v.Filter = with_expr (λ e. Goes (x.Filter e))
expr_form v.FilterNot = with_expr (λ e. Goes (x.FilterNot e))
expr_form v.TakeWhile = with_expr (λ e. Goes (x.TakeWhile e))
expr_form v.DropWhile = with_expr (λ e. Goes (x.DropWhile e))
expr_form v.Count = with_expr (λ e. Ends (x.Count e))
expr_form v.Sum = with_expr (λ e. Ends (x.Sum e))
expr_form v.Product = with_expr (λ e. Ends (x.Product e))
expr_form v.Min = with_expr (λ e. Ends (x.Min e))
expr_form v.Max = with_expr (λ e. Ends (x.Max e))
expr_form v.Find = with_expr (λ e. Ends (x.Find e))
expr_form v.Exists = with_expr (λ e. Ends (x.Exists e))
expr_form v.Forall = with_expr (λ e. Ends (x.Forall e))
expr_form v.IndexWhere = with_expr (λ e. Ends (x.IndexWhere e))
expr_form v.LastIndexWhere = with_expr (λ e. Ends (x.LastIndexWhere e))
expr_form v.Span = with_expr (λ e. Ends (x.Span e))
expr_form v.Partition = with_expr (λ e. Ends (x.Partition e))
expr_form v.ToSet = with_expr (λ e. Ends (x.ToSet e))
expr_form _ = None

-- a last step of more than one expression, or one of those above
abbrev pub last_form : Verb → Option (Form Said)
last_form v.MkString = Some (A AnExpr ∷ A AText ∷ [], λ e s. Ends (x.MkString e s))
last_form v.SegmentLength = Some (A AnExpr ∷ Fixed j.From ∷ A AnInt ∷ [], λ e n. Ends (x.SegmentLength e n))
last_form v.ToMap = Some (A AnExpr ∷ Fixed j.Arrow ∷ A AnExpr ∷ [], λ k e. Ends (x.ToMap k e))
last_form w = expr_form w

-- a line without an expression, or one of those above
abbrev pub count_form : Verb → Option (Form Said)
count_form v.Take = Some (A AnInt ∷ [], λ n. Goes (x.Take n))
count_form v.Drop = Some (A AnInt ∷ [], λ n. Goes (x.Drop n))
count_form v.Slice = Some (A AnInt ∷ Fixed j.Until ∷ A AnInt ∷ [], λ a b. Goes (x.Slice a b))
count_form v.Zip = Some (Fixed j.Range ∷ A AnInt ∷ Fixed j.Until ∷ A AnInt ∷ Fixed j.By ∷ A AnInt ∷ Fixed j.As ∷ A AName ∷ [], λ a b c n. Goes (x.ZipRange a b c n))
count_form v.Reverse = Some ([], Goes x.Reverse)
count_form v.Distinct = Some ([], Goes x.Distinct)
count_form v.SplitAt = Some (A AnInt ∷ [], λ n. Ends (x.SplitAt n))
count_form v.Print = Some ([], Ends x.Print)
count_form v.Size = Some ([], Ends x.Size)
count_form w = last_form w

-- a line, behind its first word
abbrev pub line_form : Verb → Option (Form Said)
line_form v.Pipeline = Some (Fixed j.Two ∷ [], Second)
line_form v.Par = Some (A AKind ∷ [], Par)
line_form v.Map = Some (A Fields ∷ [], λ fs. Goes (x.Map fs))
line_form v.Collect = Some (A Fields ∷ Fixed j.When ∷ A AnExpr ∷ [], λ fs e. Goes (x.Collect fs e))
line_form v.FlatMap = Some (Fixed j.Split ∷ A AName ∷ A AText ∷ [], λ n s. Goes (x.FlatMap n s))
line_form v.ZipWithIndex = Some (Fixed j.As ∷ A AName ∷ [], λ n. Goes (x.ZipWithIndex n))
line_form v.Scan = Some (A ARunning ∷ A AnExpr ∷ Fixed j.As ∷ A AName ∷ [], λ how e n. Goes (x.Scan how e n))
line_form v.GroupBy = Some (A Keys ∷ Fixed j.Colon ∷ A Totals ∷ [], λ ks xs. Goes (x.GroupBy ks xs))
line_form w = count_form w

-- ---- which tokens are of a form

-- `by int`, or nothing for 1
abbrev pub IsStride : ℤ → List Token → Type 0
IsStride z ts = ((z ≡ pos 1) × (ts ≡ [])) ⊎ ((used : List Token) × IsInt z used × (ts ≡ t.Kept r.By ∷ used))

abbrev pub kind_word : Kind → Verb
kind_word kinds.Array = v.Array
kind_word kinds.Vector = v.Vector

abbrev pub running_word : Running → Verb
running_word runnings.Sum = v.Sum
running_word runnings.Product = v.Product

abbrev pub sort_word : ColumnKind → Reserved
sort_word sorts.Int = r.Int
sort_word sorts.Text = r.Text

-- which tokens are a part; this for the parts that are no lists
abbrev pub IsSimple : (p : Part) → Value p → List Token → Type 0
IsSimple AName w ts = IsName w ts
IsSimple AnInt z ts = IsInt z ts
IsSimple AnExpr e ts = Reads 6 e ts
IsSimple AText s ts = ts ≡ t.Quote s ∷ []
IsSimple AStride z ts = IsStride z ts
IsSimple AKind k ts = (n : Text) × (ts ≡ t.Word (kind_word k) n ∷ [])
IsSimple ASort s ts = ts ≡ t.Kept (sort_word s) ∷ []
IsSimple ARunning k ts = (n : Text) × (ts ≡ t.Word (running_word k) n ∷ [])
IsSimple _ y ts = ⊥

-- these tokens fill the slots, and make y
abbrev pub Fills : {R : Type 0} → ((p : Part) → Value p → List Token → Type 0) → (slots : List Slot) → Takes R slots → R → List Token → Type 0
Fills is [] made y ts = (y ≡ made) × (ts ≡ [])
Fills is (Fixed k ∷ slots) made y ts = (rest : List Token) × Fills is slots made y rest × (ts ≡ joint_token k ∷ rest)
Fills is (A p ∷ slots) made y ts = (value : Value p) × (used : List Token) × (rest : List Token) × is p value used × Fills is slots (made value) y rest × (ts ≡ used ++ rest)

abbrev pub HasForm : {R : Type 0} → ((p : Part) → Value p → List Token → Type 0) → Option (Form R) → R → List Token → Type 0
HasForm is None y ts = ⊥
HasForm is (Some form) y ts = Fills is form.0 form.1 y ts

-- one or more, with commas between
abbrev pub AreMany : {V : Type 0} → (V → List Token → Type 0) → List V → List Token → Type 0
AreMany is [] ts = ⊥
AreMany is (y ∷ []) ts = is y ts
AreMany is (y ∷ z ∷ ys) ts = (used : List Token) × (rest : List Token) × is y used × AreMany is (z ∷ ys) rest × (ts ≡ used ++ t.Sign m.Comma ∷ rest)

abbrev pub IsTotal : Total → List Token → Type 0
IsTotal y ts = (w : Verb) × (n : Text) × (rest : List Token) × HasForm IsSimple (total_form w) y rest × (ts ≡ t.Word w n ∷ rest)

abbrev pub IsPart : (p : Part) → Value p → List Token → Type 0
IsPart Columns ys ts = AreMany (Fills IsSimple column_form.0 column_form.1) ys ts
IsPart Fields ys ts = AreMany (Fills IsSimple field_form.0 field_form.1) ys ts
IsPart Keys ys ts = AreMany (Fills IsSimple key_form.0 key_form.1) ys ts
IsPart Totals ys ts = AreMany IsTotal ys ts
IsPart p y ts = IsSimple p y ts

-- the tokens of a line say this
abbrev pub Says : Said → List Token → Type 0
Says y ts =
    ((w : Verb) × (n : Text) × (rest : List Token) × HasForm IsPart (line_form w) y rest × (ts ≡ t.Word w n ∷ rest))
    ⊎ ((w : Reserved) × (rest : List Token) × HasForm IsPart (source_form w) y rest × (ts ≡ t.Kept r.From ∷ t.Kept w ∷ rest))
