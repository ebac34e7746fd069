-- The rows after each step, or the one fault that the step has.
use Rattle.std.specs.Prelude.{◌+◌, ◌&&◌, nat_lt, int_lt, ◌+ℤ◌, ℕ, ℤ, pos, Bool, true, false, cond, List, [], ◌∷◌, ◌++◌, length, map, reverse, take, drop, take_while, set, slice_get, slice_range, Option, Some, None, Result, Ok, Err}
use Rattle.std.specs.List.{filter, flat_map}
use Rattle.par_laws.specs.declared.guard.Made.{Made}
use Rattle.par_laws.specs.declared.guard.Made.TheVariants as made
use Rattle.par_laws.specs.declared.test.Verdict.{Verdict}
use Rattle.par_laws.specs.declared.tried.FaultAt.{FaultAt}
use Rattle.par_laws.specs.Verdict.{contrary}
use Rattle.par_lists.specs.Choices.{filter_not}
use Rattle.par_lists.specs.Cuts.{drop_while, place}
use Rattle.par_rows.specs.declared.schema.Column.{Column}
use Rattle.par_rows.specs.declared.value.Value.{Value}
use Rattle.par_rows.specs.declared.value.Value.TheVariants as v
use Rattle.par_rows.specs.declared.row.Row.{Row}
use Rattle.par_task.specs.Marking.{low_flag, no_flag, passes}
use Rattle.par_jobs.specs.Faults.{fault_of}
use Rattle.par_transform.specs.Indexes.{with_indexes}
use Rattle.pipe_expr.specs.Grammar.{Tree}
use Rattle.pipe_steps.specs.Said.{Text, Field, Middle, Goes}
use Rattle.pipe_steps.specs.Said as x
use Rattle.pipe_checks.specs.Kinds.{fits}
use Rattle.pipe_checks.specs.Places.{moves}
use Rattle.pipe_checks.specs.Uses.{middle_passes}
use Rattle.pipe_eval.specs.Answers.{row_made, row_of, text_held, trees, verdict_on}
use Rattle.pipe_eval.specs.Bound.{place_named}
use Rattle.pipe_stages.specs.Pieces.{pieces}
use Rattle.pipe_stages.specs.declared.stop.StepStop.{StepStop}
use Rattle.pipe_stages.specs.declared.stop.StepStop.TheVariants.{Fault, TooMany}

-- the rows after a step, or why it stops
abbrev pub Answer : Type 0
Answer = Result (List Row) StepStop

-- ---- which steps run

-- the steps that are built
abbrev pub is_built : Middle → Bool
is_built (x.Scan how e n) = false
is_built (x.GroupBy ks ts) = false
is_built x.Distinct = false
is_built _ = true

-- each expression has the kind that it must have over these columns, and neither the step of a range is 0 nor a separator empty
abbrev pub is_sound : List Column → Middle → Bool
is_sound cs m = middle_passes (fits cs) m && moves (Goes m)

-- ---- steps that pick rows

-- the rows, or the fault that stands in their place
abbrev pub unless : Option FaultAt → List Row → Answer
unless None rows = Ok rows
unless (Some fault) rows = Err (Fault fault)

-- whether an expression holds at a row
abbrev pub holds : List Column → Tree → Row → Bool
holds cs e row = passes (verdict_on cs e row)

-- the contrary verdict: `takeWhile` and `dropWhile` end at the first row that it doesn't fail
abbrev pub denied : List Column → Tree → Row → Verdict
denied cs e row = contrary (verdict_on cs e row)

-- the rows that pass, or the fault of the first row that has one
abbrev pub filtered : List Column → Tree → List Row → Answer
filtered cs e rows = unless (fault_of no_flag (map (verdict_on cs e) rows)) (filter (holds cs e) rows)

-- the rows that don't pass, or the fault of the first row that has one
abbrev pub refused : List Column → Tree → List Row → Answer
refused cs e rows = unless (fault_of no_flag (map (verdict_on cs e) rows)) (filter_not (holds cs e) rows)

-- the rows before the first that doesn't pass, or that one's fault
abbrev pub taken_while : List Column → Tree → List Row → Answer
taken_while cs e rows = unless (fault_of low_flag (map (denied cs e) rows)) (take_while (holds cs e) rows)

-- the rows from the first on that doesn't pass, or that one's fault
abbrev pub dropped_while : List Column → Tree → List Row → Answer
dropped_while cs e rows = unless (fault_of low_flag (map (denied cs e) rows)) (drop_while (holds cs e) rows)

-- ---- steps that make rows

-- one more row at the front, where there is an answer
abbrev pub led_by : Row → Answer → Answer
led_by row (Ok rows) = Ok (row ∷ rows)
led_by row (Err stop) = Err stop

-- the rows that were made, or the first fault with its index, where the first of them has this index
abbrev pub all_made : ℕ → List (Made Row) → Answer
all_made at [] = Ok []
all_made at (made.Value row ∷ rest) = led_by row (all_made (at + 1) rest)
all_made at (made.Fault kind ∷ rest) = Err (Fault (record { at = at; kind = kind }))

-- what is made of each row, or the fault of the first row that has one
abbrev pub each_made : (Row → Made Row) → List Row → Answer
each_made f rows = all_made 0 (map f rows)

-- what is made of the rows of an answer
abbrev pub then_made : (Row → Made Row) → Answer → Answer
then_made f (Ok rows) = each_made f rows
then_made f (Err stop) = Err stop

-- the row of some expressions' values
abbrev pub made_by : List Column → List Field → Row → Made Row
made_by cs fields = row_made cs (trees fields)

-- a row with one value more, at its end
abbrev pub with_last : Row → Value → Row
with_last row value = row_of (row.values ++ value ∷ [])

-- each row with its index, from 0 on
abbrev pub indexed : List Row → List Row
indexed rows = map (λ e. with_last e.0 (v.Int e.1)) (with_indexes rows)

-- whether a lies before b in the direction of c
abbrev pub comes_before : ℤ → ℤ → ℤ → Bool
comes_before c a b = cond (int_lt (pos 0) c) (int_lt a b) (int_lt b a)

-- each row with the next of the numbers a, a + c, a + 2 * c .. that lie before b, as far as both go
abbrev pub ranged : ℤ → ℤ → ℤ → List Row → List Row
ranged a b c [] = []
ranged a b c (row ∷ rows) = cond (comes_before c a b) (with_last row (v.Int a) ∷ ranged (a +ℤ c) b c rows) []

-- a row for each piece of its text at that place, with the piece there
abbrev pub split_at_place : ℕ → Text → Row → List Row
split_at_place at sep row = map (λ piece. row_of (set row.values at (v.Text piece))) (pieces sep (text_held (slice_get row.values at)))

-- the rows, where they aren't more than a collection has
abbrev pub at_most : List Row → Answer
at_most rows = cond (nat_lt 4194304 (length rows)) (Err TooMany) (Ok rows)

-- ---- all of them

-- the rows after a step that gets these rows, of these columns; of the last line are the steps that aren't built, which
-- no call runs
abbrev pub after : List Column → Middle → List Row → Answer
after cs (x.Filter e) rows = filtered cs e rows
after cs (x.FilterNot e) rows = refused cs e rows
after cs (x.Map fields) rows = each_made (made_by cs fields) rows
after cs (x.Collect fields e) rows = then_made (made_by cs fields) (filtered cs e rows)
after cs (x.FlatMap name sep) rows = at_most (flat_map (split_at_place (place_named cs name) sep) rows)
after cs (x.Take n) rows = Ok (take (place n) rows)
after cs (x.Drop n) rows = Ok (drop (place n) rows)
after cs (x.Slice a b) rows = Ok (slice_range rows (place a) (place b))
after cs (x.TakeWhile e) rows = taken_while cs e rows
after cs (x.DropWhile e) rows = dropped_while cs e rows
after cs (x.ZipWithIndex name) rows = Ok (indexed rows)
after cs (x.ZipRange a b c name) rows = Ok (ranged a b c rows)
after cs x.Reverse rows = Ok (reverse rows)
after cs _ rows = Ok rows
