-- The value of an expression at a row, and what is made of it.
use Rattle.std.specs.Prelude.{◌-ℤ◌, ◌++◌, not, length, drop, map, ℕ, ℤ, pos, Bool, true, false, List, [], ◌∷◌, Option, Some, None, Result, Ok, Err, if◌then◌else◌, int_div, int_rem, encode_utf8_all}
use Rattle.std.specs.Int.{int_wrap, w64}
use Rattle.std.specs.Fmt.{signed_decimal}
use Rattle.std.specs.Ordering.{int_cmp, int_eq, is_eq, is_ne, is_lt, is_le, is_gt, is_ge}
use Rattle.std.specs.declared.cmp.Ordering.{Ordering}
use Rattle.std.specs.declared.cmp.Ordering.TheVariants.{Equal}
use Rattle.par_laws.specs.Text.{text_cmp, text_eq}
use Rattle.par_laws.specs.Wrapping.{wrapped_sum, wrapped_product}
use Rattle.par_laws.specs.declared.guard.Made.{Made}
use Rattle.par_laws.specs.declared.guard.Made.TheVariants as m
use Rattle.par_laws.specs.declared.test.Verdict.{Verdict}
use Rattle.par_laws.specs.declared.test.Verdict.TheVariants as verdicts
use Rattle.par_rows.specs.declared.schema.Column.{Column}
use Rattle.par_rows.specs.declared.schema.ColumnKind.{ColumnKind}
use Rattle.par_rows.specs.declared.schema.ColumnKind.TheVariants as sorts
use Rattle.par_rows.specs.declared.value.Value.{Value}
use Rattle.par_rows.specs.declared.value.Value.TheVariants as v
use Rattle.par_rows.specs.declared.row.Row.{Row}
use Rattle.pipe_expr.specs.declared.expr.Op.{Op}
use Rattle.pipe_expr.specs.declared.expr.Op.TheVariants as o
use Rattle.pipe_expr.specs.Grammar.{Tree}
use Rattle.pipe_expr.specs.Grammar as g
use Rattle.pipe_steps.specs.Said.{Field}
use Rattle.pipe_eval.specs.declared.fault.Fault.{Fault}
use Rattle.pipe_eval.specs.declared.fault.Fault.TheVariants as faults
use Rattle.pipe_eval.specs.Spelled.{spelled}

-- what an expression may be at a row
pub data Answer : Type 0 where
  Int : ℤ → Answer
  Text : List ℕ → Answer
  Truth : Bool → Answer

-- the number, the text or the truth that it is; where kinds fit, none is asked for another
abbrev pub int_in : Answer → ℤ
int_in (Int z) = z
int_in _ = pos 0

abbrev pub text_in : Answer → List ℕ
text_in (Text s) = s
text_in _ = []

abbrev pub truth_in : Answer → Bool
truth_in (Truth b) = b
truth_in _ = false

-- the fault, or what f makes of the value
infixl 10 ◌>>=◌
abbrev pub ◌>>=◌ : {A B : Type 0} → Result A Fault → (A → Result B Fault) → Result B Fault
(Ok x) >>= f = f x
(Err k) >>= f = Err k

-- ---- columns

abbrev pub int_held : Option Value → ℤ
int_held (Some (v.Int z)) = z
int_held _ = pos 0

abbrev pub text_held : Option Value → List ℕ
text_held (Some (v.Text s)) = s
text_held _ = []

-- the value of a column of this kind: 0 or the empty text where the row has none of the kind
abbrev pub held : ColumnKind → Option Value → Answer
held sorts.Int value = Int (int_held value)
held sorts.Text value = Text (text_held value)

abbrev pub first : List Value → Option Value
first [] = None
first (x ∷ xs) = Some x

-- the value of the first column of this name
abbrev pub looked_up : List Column → List Value → List ℕ → Answer
looked_up [] values n = Int (pos 0)
looked_up (c ∷ cs) values n = if text_eq c.name n then held c.kind (first values) else looked_up cs (drop 1 values) n

-- ---- operators

abbrev pub wrapped_difference : ℤ → ℤ → ℤ
wrapped_difference a b = int_wrap w64 (a -ℤ b)

-- truncated toward zero; the remainder has the dividend's sign
abbrev pub quotient : ℤ → ℤ → Result ℤ Fault
quotient a b = if int_eq b (pos 0) then Err faults.Zero else Ok (int_wrap w64 (int_div a b))

abbrev pub remainder : ℤ → ℤ → Result ℤ Fault
remainder a b = if int_eq b (pos 0) then Err faults.Zero else Ok (int_rem a b)

-- numbers by value, texts by their bytes
abbrev pub answer_cmp : Answer → Answer → Ordering
answer_cmp (Int a) (Int b) = int_cmp a b
answer_cmp (Text a) (Text b) = text_cmp a b
answer_cmp _ _ = Equal

-- both sides, the left one first
abbrev pub both : (Answer → Answer → Result Answer Fault) → Result Answer Fault → Result Answer Fault → Result Answer Fault
both f x y = x >>= λ a. y >>= λ b. f a b

abbrev pub compared : (Ordering → Bool) → Result Answer Fault → Result Answer Fault → Result Answer Fault
compared holds = both (λ a b. Ok (Truth (holds (answer_cmp a b))))

abbrev pub reckoned : (ℤ → ℤ → Result ℤ Fault) → Result Answer Fault → Result Answer Fault → Result Answer Fault
reckoned f = both (λ a b. f (int_in a) (int_in b) >>= λ z. Ok (Int z))

-- what an operator makes of its sides; `or` and `and` look at the right side only where the left one leaves it open
abbrev pub joined : Op → Result Answer Fault → Result Answer Fault → Result Answer Fault
joined o.Or x y = x >>= λ a. if truth_in a then Ok (Truth true) else y
joined o.And x y = x >>= λ a. if truth_in a then y else Ok (Truth false)
joined o.Equal x y = compared is_eq x y
joined o.Differ x y = compared is_ne x y
joined o.Less x y = compared is_lt x y
joined o.AtMost x y = compared is_le x y
joined o.More x y = compared is_gt x y
joined o.AtLeast x y = compared is_ge x y
joined o.Plus x y = reckoned (λ a b. Ok (wrapped_sum a b)) x y
joined o.Minus x y = reckoned (λ a b. Ok (wrapped_difference a b)) x y
joined o.Times x y = reckoned (λ a b. Ok (wrapped_product a b)) x y
joined o.Divide x y = reckoned quotient x y
joined o.Remainder x y = reckoned remainder x y
joined o.Join x y = both (λ a b. Ok (Text (text_in a ++ text_in b))) x y

-- ---- expressions

-- how many characters a text has, in 64 bits
abbrev pub size : List ℕ → ℤ
size s = int_wrap w64 (pos (length s))

-- the value of an expression at a row with these columns, or its fault
abbrev pub value : List Column → Tree → Row → Result Answer Fault
value cs (g.Number z) row = Ok (Int z)
value cs (g.Texted s) row = Ok (Text s)
value cs (g.Named n) row = Ok (looked_up cs row.values n)
value cs (g.Length e) row = value cs e row >>= λ a. Ok (Int (size (text_in a)))
value cs (g.Valued e) row = value cs e row >>= λ a. spelled (encode_utf8_all (text_in a)) >>= λ z. Ok (Int z)
value cs (g.Inside e) row = value cs e row
value cs (g.Negated e) row = value cs e row >>= λ a. Ok (Truth (not (truth_in a)))
value cs (g.Joined op a b) row = joined op (value cs a row) (value cs b row)

-- ---- what is made of a value

-- the number of a kind of fault
abbrev pub fault_number : Fault → ℕ
fault_number faults.Zero = 1
fault_number faults.Number = 2

abbrev pub made : {X : Type 0} → Result X Fault → Made X
made (Ok x) = m.Value x
made (Err k) = m.Fault (fault_number k)

abbrev pub judged : Result Bool Fault → Verdict
judged (Ok true) = verdicts.Pass
judged (Ok false) = verdicts.Fail
judged (Err k) = verdicts.Fault (fault_number k)

-- the decimal form of a number, or the text
abbrev pub written : Answer → List ℕ
written (Int z) = signed_decimal z
written (Text s) = s
written (Truth b) = []

-- what a row holds of a number or of a text
abbrev pub kept : Answer → Value
kept (Int z) = v.Int z
kept (Text s) = v.Text s
kept (Truth b) = v.Int (pos 0)

-- whether an expression of truth kind holds at a row
abbrev pub verdict_on : List Column → Tree → Row → Verdict
verdict_on cs e row = judged (value cs e row >>= λ a. Ok (truth_in a))

-- the number of an expression of number kind
abbrev pub number_made : List Column → Tree → Row → Made ℤ
number_made cs e row = made (value cs e row >>= λ a. Ok (int_in a))

-- the text of a number's or a text's value
abbrev pub text_made : List Column → Tree → Row → Made (List ℕ)
text_made cs e row = made (value cs e row >>= λ a. Ok (written a))

-- what a row holds of an expression's value
abbrev pub kept_value : List Column → Tree → Row → Result Value Fault
kept_value cs e row = value cs e row >>= λ a. Ok (kept a)

-- the values in order, or the first fault
abbrev pub in_order : List (Row → Result Value Fault) → Row → Result (List Value) Fault
in_order [] row = Ok []
in_order (f ∷ fs) row = f row >>= λ x. in_order fs row >>= λ xs. Ok (x ∷ xs)

abbrev pub row_of : List Value → Row
row_of xs = record { values = xs }

-- the row of the values of some expressions
abbrev pub row_made : List Column → List Tree → Row → Made Row
row_made cs es row = made (in_order (map (kept_value cs) es) row >>= λ xs. Ok (row_of xs))

-- the expressions of named values
abbrev pub trees : List Field → List Tree
trees fields = map (λ f. f.1) fields
