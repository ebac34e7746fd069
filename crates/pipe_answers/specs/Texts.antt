-- The text of an answer.
use Rattle.std.specs.Prelude.{ℕ, ℤ, Bool, true, false, List, [], ◌∷◌, ◌++◌, map, length, slice_get, codes, decimal, encode_utf8_all, Option, None, Some}
use Rattle.std.specs.Borrow.{Bor}
use Rattle.std.specs.List.{flat_map}
use Rattle.std.specs.Fmt.{signed_decimal}
use Rattle.csv.specs.Writing.{row_text, default_writer}
use Rattle.par_rows.specs.declared.schema.Column.{Column}
use Rattle.par_rows.specs.declared.value.Value.{Value}
use Rattle.par_rows.specs.declared.value.Value.TheVariants as v
use Rattle.par_rows.specs.declared.row.Row.{Row}

-- a text and a line feed
abbrev pub line : List ℕ → List ℕ
line text = text ++ 10 ∷ []

-- a number in decimal, a text as it is
abbrev pub value_text : Value → List ℕ
value_text (v.Int z) = signed_decimal z
value_text (v.Text s) = encode_utf8_all s

-- the text of a record of these fields, with its line feed, as the default writer of `csv` gives it
unfoldable pub record_text : List (List ℕ) → List ℕ
record_text fields = row_text default_writer fields

-- a row, as the record of its values' texts
abbrev pub row_line : Row → List ℕ
row_line row = record_text (map value_text row.values)

-- rows, one after the other
abbrev pub rows_text : List Row → List ℕ
rows_text rows = flat_map row_line rows

-- the record of the columns' names
abbrev pub header_text : List Column → List ℕ
header_text columns = record_text (map (λ c. encode_utf8_all c.name) columns)

-- the names of the columns, and then the rows
abbrev pub table_text : List Column → List Row → List ℕ
table_text columns rows = header_text columns ++ rows_text rows

-- the row that a reference points to, if there is one
abbrev pub pointed_row : Option (Bor Row) → Option Row
pointed_row None = None
pointed_row (Some r) = Some r.now

-- the row at a place, if there is a place
abbrev pub placed_row : List Row → Option ℕ → Option Row
placed_row rows None = None
placed_row rows (Some at) = slice_get rows at

-- a row under the names of the columns, or that there is none
abbrev pub found_text : List Column → Option Row → List ℕ
found_text columns None = line (codes "none")
found_text columns (Some row) = table_text columns (row ∷ [])

-- a number in decimal
abbrev pub number_text : ℤ → List ℕ
number_text z = line (signed_decimal z)

-- how many there are, in decimal
abbrev pub count_text : ℕ → List ℕ
count_text n = line (decimal n)

-- a number, or that there is none
abbrev pub number_or_none : Option ℤ → List ℕ
number_or_none None = line (codes "none")
number_or_none (Some z) = number_text z

abbrev pub truth_text : Bool → List ℕ
truth_text true = line (codes "true")
truth_text false = line (codes "false")

-- a word, how many rows there are, and on the next lines the rows
abbrev pub part_text : List ℕ → List Row → List ℕ
part_text word rows = word ++ count_text (length rows) ++ rows_text rows

-- two lists of rows
abbrev pub parts_text : List Row → List Row → List ℕ
parts_text first second = part_text (codes "first ") first ++ part_text (codes "second ") second
