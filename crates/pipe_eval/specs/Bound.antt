-- What bound expressions are at a row, where columns are places.
use Rattle.std.specs.Prelude.{◌≡◌, ◌++◌, not, ℕ, ℤ, Bool, true, false, List, [], ◌∷◌, Result, Ok, if◌then◌else◌, slice_get, encode_utf8_all, suc}
use Rattle.std.specs.Ordering.{int_cmp, is_eq, is_ne, is_lt, is_le, is_gt, is_ge}
use Rattle.std.specs.declared.cmp.Ordering.{Ordering}
use Rattle.par_laws.specs.Text.{text_cmp, text_eq}
use Rattle.par_laws.specs.Wrapping.{wrapped_sum, wrapped_product}
use Rattle.par_rows.specs.declared.schema.Column.{Column}
use Rattle.par_rows.specs.declared.value.Value.{Value}
use Rattle.par_rows.specs.declared.value.Value.TheVariants as v
use Rattle.par_rows.specs.declared.row.Row.{Row}
use Rattle.pipe_expr.specs.Grammar.{Tree}
use Rattle.pipe_eval.specs.declared.fault.Fault.{Fault}
use Rattle.pipe_eval.specs.declared.text.Plain.{Plain}
use Rattle.pipe_eval.specs.declared.text.Plain.TheVariants as p
use Rattle.pipe_eval.specs.declared.text.Joinable.{Joinable}
use Rattle.pipe_eval.specs.declared.text.Joinable.TheVariants as t
use Rattle.pipe_eval.specs.declared.amount.Arithmetic.{Arithmetic}
use Rattle.pipe_eval.specs.declared.amount.Arithmetic.TheVariants as how
use Rattle.pipe_eval.specs.declared.amount.Amount.{Amount}
use Rattle.pipe_eval.specs.declared.amount.Amount.TheVariants as n
use Rattle.pipe_eval.specs.declared.claim.Comparison.{Comparison}
use Rattle.pipe_eval.specs.declared.claim.Comparison.TheVariants as are
use Rattle.pipe_eval.specs.declared.claim.Claim.{Claim}
use Rattle.pipe_eval.specs.declared.claim.Claim.TheVariants as c
use Rattle.pipe_eval.specs.declared.cell.Cell.{Cell}
use Rattle.pipe_eval.specs.declared.cell.Cell.TheVariants as cells
use Rattle.pipe_eval.specs.Spelled.{spelled}
use Rattle.pipe_eval.specs.Answers.{Int, Text, Truth, ◌>>=◌, int_held, text_held, quotient, remainder, size, value, wrapped_difference}

-- the place of the first column of this name, or how many there are
abbrev pub place_named : List Column → List ℕ → ℕ
place_named [] w = 0
place_named (d ∷ cs) w = if text_eq d.name w then 0 else suc (place_named cs w)

-- ---- at a row

abbrev pub plain_at : Plain → Row → List ℕ
plain_at (p.Fixed s) row = s
plain_at (p.Column place) row = text_held (slice_get row.values place)

abbrev pub joinable_at : Joinable → Row → List ℕ
joinable_at (t.One x) row = plain_at x row
joinable_at (t.Join' q a r b) row = joinable_at a row ++ joinable_at b row

abbrev pub applied : Arithmetic → ℤ → ℤ → Result ℤ Fault
applied how.Plus a b = Ok (wrapped_sum a b)
applied how.Minus a b = Ok (wrapped_difference a b)
applied how.Times a b = Ok (wrapped_product a b)
applied how.Divide a b = quotient a b
applied how.Remainder a b = remainder a b

-- of two numbers, the left one first
abbrev pub applied_to : Arithmetic → Result ℤ Fault → Result ℤ Fault → Result ℤ Fault
applied_to by x y = x >>= λ a. y >>= λ b. applied by a b

abbrev pub amount_at : Amount → Row → Result ℤ Fault
amount_at (n.Fixed z) row = Ok z
amount_at (n.Column place) row = Ok (int_held (slice_get row.values place))
amount_at (n.Length x) row = Ok (size (joinable_at x row))
amount_at (n.Spelled x) row = spelled (encode_utf8_all (joinable_at x row))
amount_at (n.Reckoned' by q a r b) row = applied_to by (amount_at a row) (amount_at b row)

abbrev pub holds : Comparison → Ordering → Bool
holds are.Equal r = is_eq r
holds are.Differ r = is_ne r
holds are.Less r = is_lt r
holds are.AtMost r = is_le r
holds are.More r = is_gt r
holds are.AtLeast r = is_ge r

abbrev pub claim_at : Claim → Row → Result Bool Fault
claim_at (c.Numbers by a b) row = amount_at a row >>= λ x. amount_at b row >>= λ y. Ok (holds by (int_cmp x y))
claim_at (c.Texts by a b) row = Ok (holds by (text_cmp (plain_at a row) (plain_at b row)))
claim_at (c.Not' q a) row = claim_at a row >>= λ x. Ok (not x)
claim_at (c.And' q a r b) row = claim_at a row >>= λ x. if x then claim_at b row else Ok false
claim_at (c.Or' q a r b) row = claim_at a row >>= λ x. if x then Ok true else claim_at b row

abbrev pub cell_at : Cell → Row → Result Value Fault
cell_at (cells.Number a) row = amount_at a row >>= λ z. Ok (v.Int z)
cell_at (cells.Text x) row = Ok (v.Text (joinable_at x row))

-- ---- they answer an expression's value at each row

abbrev pub PlainAnswers : List Column → Tree → Plain → Type 0
PlainAnswers cs e x = (row : Row) → value cs e row ≡ Ok (Text (plain_at x row))

abbrev pub JoinableAnswers : List Column → Tree → Joinable → Type 0
JoinableAnswers cs e x = (row : Row) → value cs e row ≡ Ok (Text (joinable_at x row))

abbrev pub AmountAnswers : List Column → Tree → Amount → Type 0
AmountAnswers cs e a = (row : Row) → value cs e row ≡ (amount_at a row >>= λ z. Ok (Int z))

abbrev pub ClaimAnswers : List Column → Tree → Claim → Type 0
ClaimAnswers cs e a = (row : Row) → value cs e row ≡ (claim_at a row >>= λ b. Ok (Truth b))

-- a number's cell answers as its number, and a text's as its text
abbrev pub CellAnswers : List Column → Tree → Cell → Type 0
CellAnswers cs e (cells.Number a) = AmountAnswers cs e a
CellAnswers cs e (cells.Text x) = JoinableAnswers cs e x
