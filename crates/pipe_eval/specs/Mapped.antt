-- What the tests and the mappers answer at a row.
use Rattle.std.specs.Prelude.{map, ℤ, ℕ, List, [], ◌∷◌, Result, Ok}
use Rattle.std.specs.Fmt.{signed_decimal}
use Rattle.par_laws.specs.declared.guard.Made.{Made}
use Rattle.par_laws.specs.declared.test.Verdict.{Verdict}
use Rattle.par_rows.specs.declared.row.Row.{Row}
use Rattle.pipe_eval.specs.declared.fault.Fault.{Fault}
use Rattle.pipe_eval.specs.declared.cell.Cell.{Cell}
use Rattle.pipe_eval.specs.declared.cell.Cell.TheVariants as cells
use Rattle.pipe_eval.specs.declared.condition.Condition.{Condition}
use Rattle.pipe_eval.specs.declared.number.Number.{Number}
use Rattle.pipe_eval.specs.declared.shown.Shown.{Shown}
use Rattle.pipe_eval.specs.declared.key.Key.{Key}
use Rattle.pipe_eval.specs.declared.maker.Maker.{Maker}
use Rattle.pipe_eval.specs.Answers.{◌>>=◌, in_order, judged, made, row_of}
use Rattle.pipe_eval.specs.Bound.{amount_at, cell_at, claim_at, joinable_at}

-- the verdict of a condition
abbrev pub condition_on : Condition → Row → Verdict
condition_on x row = judged (claim_at x.claim row)

-- the number of a mapper
abbrev pub number_on : Number → Row → Made ℤ
number_on x row = made (amount_at x.amount row)

abbrev pub written_at : Cell → Row → Result (List ℕ) Fault
written_at (cells.Number a) row = amount_at a row >>= λ z. Ok (signed_decimal z)
written_at (cells.Text x) row = Ok (joinable_at x row)

-- the text of a mapper
abbrev pub text_on : Shown → Row → Made (List ℕ)
text_on x row = made (written_at x.cell row)

-- the row of one value
abbrev pub key_on : Key → Row → Made Row
key_on x row = made (in_order (cell_at x.cell ∷ []) row >>= λ xs. Ok (row_of xs))

-- the row of several values
abbrev pub row_on : Maker → Row → Made Row
row_on x row = made (in_order (map cell_at x.cells.items) row >>= λ xs. Ok (row_of xs))
