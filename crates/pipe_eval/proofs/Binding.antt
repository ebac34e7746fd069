-- What is bound answers as its expression.
use Rattle.std.proofs.Common.{◌≡◌, ◌∙◌, sym, refl, ap, ap₂, ℕ, suc, ℤ, Bool, true, false, if◌then◌else◌, List, [], ◌∷◌, drop, Option, Some, None, Result, Ok, Err, slice_get}
use Rattle.std.specs.Ordering.{int_cmp}
use Rattle.std.specs.declared.cmp.Ordering.{Ordering}
use Rattle.par_laws.specs.Text.{text_eq}
use Rattle.par_rows.specs.declared.schema.Column.{Column}
use Rattle.par_rows.specs.declared.schema.ColumnKind.{ColumnKind}
use Rattle.par_rows.specs.declared.schema.ColumnKind.TheVariants as sorts
use Rattle.par_rows.specs.declared.value.Value.{Value}
use Rattle.par_rows.specs.declared.row.Row.{Row}
use Rattle.pipe_expr.specs.declared.expr.Op.{Op}
use Rattle.pipe_expr.specs.Grammar.{Tree}
use Rattle.pipe_expr.specs.Grammar as g
use Rattle.pipe_checks.specs.Kinds.{kind_named, kind_of, of_column}
use Rattle.pipe_checks.specs.declared.kinds.ValueKind.TheVariants as k
use Rattle.pipe_eval.specs.declared.fault.Fault.{Fault}
use Rattle.pipe_eval.specs.declared.text.Plain.{Plain}
use Rattle.pipe_eval.specs.declared.text.Plain.TheVariants as p
use Rattle.pipe_eval.specs.declared.amount.Arithmetic.{Arithmetic}
use Rattle.pipe_eval.specs.declared.amount.Amount.{Amount}
use Rattle.pipe_eval.specs.declared.amount.Amount.TheVariants as n
use Rattle.pipe_eval.specs.declared.claim.Comparison.{Comparison}
use Rattle.pipe_eval.specs.declared.claim.Claim.TheVariants as c
use Rattle.pipe_eval.specs.Answers.{Answer, Int, Truth, ◌>>=◌, compared, first, held, joined, looked_up, reckoned, value}
use Rattle.pipe_eval.specs.Bound.{AmountAnswers, ClaimAnswers, PlainAnswers, amount_at, applied, applied_to, holds, place_named}

-- ---- columns

column-number : (found : Option ColumnKind) → of_column found ≡ Some k.Number → found ≡ Some sorts.Int
column-number None h = cc h
column-number (Some sorts.Int) h = refl
column-number (Some sorts.Text) h = cc h

column-text : (found : Option ColumnKind) → of_column found ≡ Some k.Text → found ≡ Some sorts.Text
column-text None h = cc h
column-text (Some sorts.Int) h = cc h
column-text (Some sorts.Text) h = refl

first-is : (values : List Value) → first values ≡ slice_get values 0
first-is [] = refl
first-is (x ∷ xs) = refl

rest-is : (values : List Value) (place : ℕ) → slice_get (drop 1 values) place ≡ slice_get values (suc place)
rest-is [] place = refl
rest-is (x ∷ xs) place = refl

here : (b : Bool) (kind given : ColumnKind) (found : Option ColumnKind) (values : List Value) (place : ℕ) (again : Answer)
    → (found ≡ Some given → again ≡ held given (slice_get (drop 1 values) place))
    → (if b then Some kind else found) ≡ Some given
    → (if b then held kind (first values) else again) ≡ held given (slice_get values (if b then 0 else suc place))
here true kind given found values place again f h =
    let same : kind ≡ given = cc h in
    ap₂ held same (first-is values)
here false kind given found values place again f h = f h ∙ ap (held given) (rest-is values place)

-- the value of a column stands at its place
at_place : (cs : List Column) (w : List ℕ) (values : List Value) (given : ColumnKind) → kind_named cs w ≡ Some given → looked_up cs values w ≡ held given (slice_get values (place_named cs w))
at_place [] w values given h = cc h
at_place (d ∷ cs) w values given h = here (text_eq d.name w) d.kind given (kind_named cs w) values (place_named cs w) (looked_up cs (drop 1 values) w) (at_place cs w (drop 1 values) given) h

pub column_plain : (cs : List Column) (w : List ℕ) (place : ℕ) → place ≡ place_named cs w → kind_of cs (g.Named w) ≡ Some k.Text → PlainAnswers cs (g.Named w) (p.Column place)
column_plain cs w place e h = λ row. rw e (ap Ok (at_place cs w row.values sorts.Text (column-text (kind_named cs w) h)))

pub column_amount : (cs : List Column) (w : List ℕ) (place : ℕ) → place ≡ place_named cs w → kind_of cs (g.Named w) ≡ Some k.Number → AmountAnswers cs (g.Named w) (n.Column place)
column_amount cs w place e h = λ row. rw e (ap Ok (at_place cs w row.values sorts.Int (column-number (kind_named cs w) h)))

both_numbers : (f : ℤ → ℤ → Result ℤ Fault) (x y : Result ℤ Fault) → reckoned f (x >>= λ z. Ok (Int z)) (y >>= λ z. Ok (Int z)) ≡ ((x >>= λ a. y >>= λ b. f a b) >>= λ z. Ok (Int z))
both_numbers f (Ok a) (Ok b) = refl
both_numbers f (Ok a) (Err k) = refl
both_numbers f (Err k) y = refl

pub reckoned_amount : (cs : List Column) (op : Op) (a b : Tree) (by : Arithmetic) (x y m : Amount) → joined op ≡ reckoned (applied by) → AmountAnswers cs a x → AmountAnswers cs b y
    → ((row : Row) → amount_at m row ≡ applied_to by (amount_at x row) (amount_at y row)) → AmountAnswers cs (g.Joined op a b) m
reckoned_amount cs op a b by x y m same hx hy hm = λ row.
    ap (λ (f : Result Answer Fault → Result Answer Fault → Result Answer Fault). f (value cs a row) (value cs b row)) same
    ∙ ap₂ (reckoned (applied by)) (hx row) (hy row)
    ∙ both_numbers (applied by) (amount_at x row) (amount_at y row)
    ∙ ap (λ r. r >>= λ z. Ok (Int z)) (sym (hm row))

-- ---- truths

compared_numbers : (f : Ordering → Bool) (x y : Result ℤ Fault) → compared f (x >>= λ z. Ok (Int z)) (y >>= λ z. Ok (Int z)) ≡ ((x >>= λ a. y >>= λ b. Ok (f (int_cmp a b))) >>= λ b. Ok (Truth b))
compared_numbers f (Ok a) (Ok b) = refl
compared_numbers f (Ok a) (Err k) = refl
compared_numbers f (Err k) y = refl

pub numbers_claim : (cs : List Column) (op : Op) (a b : Tree) (by : Comparison) (x y : Amount) → joined op ≡ compared (holds by) → AmountAnswers cs a x → AmountAnswers cs b y → ClaimAnswers cs (g.Joined op a b) (c.Numbers by x y)
numbers_claim cs op a b by x y same hx hy = λ row.
    ap (λ (f : Result Answer Fault → Result Answer Fault → Result Answer Fault). f (value cs a row) (value cs b row)) same
    ∙ ap₂ (compared (holds by)) (hx row) (hy row)
    ∙ compared_numbers (holds by) (amount_at x row) (amount_at y row)

pub texts_claim : (cs : List Column) (op : Op) (a b : Tree) (by : Comparison) (x y : Plain) → joined op ≡ compared (holds by) → PlainAnswers cs a x → PlainAnswers cs b y → ClaimAnswers cs (g.Joined op a b) (c.Texts by x y)
texts_claim cs op a b by x y same hx hy = λ row.
    ap (λ (f : Result Answer Fault → Result Answer Fault → Result Answer Fault). f (value cs a row) (value cs b row)) same
    ∙ ap₂ (compared (holds by)) (hx row) (hy row)
