-- The table that data is, or its first refusal, as a function of its records.
use Rattle.std.specs.Prelude.{◌==◌, ◌&&◌, nat_lt, ℕ, suc, Bool, true, false, List, [], ◌∷◌, length, Option, Some, None, option_map, Result, Ok, Err, if◌then◌else◌, bytes_eq, encode_utf8_all}
use Rattle.std.specs.List.{list_all}
use Rattle.std.specs.Str.{chars, is_utf8}
use Rattle.csv.specs.Reading.{default_config, records, strip_bom}
use Rattle.par_rows.specs.declared.schema.Column.{Column}
use Rattle.par_rows.specs.declared.schema.ColumnKind.{ColumnKind}
use Rattle.par_rows.specs.declared.schema.ColumnKind.TheVariants as sorts
use Rattle.par_rows.specs.declared.value.Value.{Value}
use Rattle.par_rows.specs.declared.value.Value.TheVariants as v
use Rattle.par_rows.specs.declared.row.Row.{Row}
use Rattle.pipe_number.specs.Spelled.{spelled}
use Rattle.pipe_data.specs.declared.stop.Flaw.{Flaw}
use Rattle.pipe_data.specs.declared.stop.Flaw.TheVariants as flaws
use Rattle.pipe_data.specs.declared.stop.DataStop.{DataStop}
use Rattle.pipe_data.specs.declared.stop.DataStop.TheVariants as stops

-- the characters of a field that is UTF-8
abbrev pub utf8_chars : List ℕ → Option (List ℕ)
utf8_chars field = if is_utf8 field then Some (chars field) else None

-- the value of a field in a column of this kind, if it has one
abbrev pub value_of : ColumnKind → List ℕ → Option Value
value_of sorts.Int field = option_map v.Int (spelled field)
value_of sorts.Text field = option_map v.Text (utf8_chars field)

abbrev pub with_value : Option Value → Option (List Value) → Option (List Value)
with_value None rest = None
with_value (Some x) rest = option_map (λ xs. x ∷ xs) rest

-- the values of the fields, if each has one
abbrev pub values_of : List Column → List (List ℕ) → Option (List Value)
values_of [] [] = Some []
values_of (c ∷ cs) (f ∷ fs) = with_value (value_of c.kind f) (values_of cs fs)
values_of _ _ = None

abbrev pub numbered : Option (List Value) → Result Row Flaw
numbered None = Err flaws.Number
numbered (Some vs) = Ok (record { values = vs })

-- the row that a record is, or the first of its flaws
abbrev pub row_of : List Column → List (List ℕ) → Result Row Flaw
row_of cs fs = if length fs == length cs then (if list_all is_utf8 fs then numbered (values_of cs fs) else Err flaws.Utf8) else Err flaws.Fields

-- a first row, and the rows after it
abbrev pub with_row : ℕ → Result Row Flaw → Result (List Row) DataStop → Result (List Row) DataStop
with_row n (Err flaw) rest = Err (stops.Flawed n flaw)
with_row n (Ok row) (Err stop) = Err stop
with_row n (Ok row) (Ok rows) = Ok (row ∷ rows)

-- the rows of records of which the first has this number; at most 4,194,304 count
abbrev pub rows_from : List Column → ℕ → List (List (List ℕ)) → Result (List Row) DataStop
rows_from cs n [] = Ok []
rows_from cs n (r ∷ rs) = if nat_lt 4194304 n then Err stops.TooMany else with_row n (row_of cs r) (rows_from cs (suc n) rs)

-- the fields are the names of the columns
abbrev pub are_names : List Column → List (List ℕ) → Bool
are_names [] [] = true
are_names (c ∷ cs) (f ∷ fs) = bytes_eq f (encode_utf8_all c.name) && are_names cs fs
are_names _ _ = false

-- the rows behind a header
abbrev pub table_of : List Column → List (List (List ℕ)) → Result (List Row) DataStop
table_of cs [] = Err (stops.Flawed 0 flaws.Header)
table_of cs (header ∷ rest) = if are_names cs header then rows_from cs 1 rest else Err (stops.Flawed 0 flaws.Header)

-- the rows that the bytes of a text are
abbrev pub data_of : List Column → List ℕ → Result (List Row) DataStop
data_of cs bytes = table_of cs (records default_config (strip_bom bytes))
