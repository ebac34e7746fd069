-- The columns after a line.
use Rattle.std.specs.Prelude.{◌&&◌, not, Bool, true, false, List, [], ◌∷◌, ◌++◌, map, Option, Some, None, codes}
use Rattle.par_rows.specs.declared.schema.Column.{Column}
use Rattle.par_rows.specs.declared.schema.ColumnKind.{ColumnKind}
use Rattle.par_rows.specs.declared.schema.ColumnKind.TheVariants as sorts
use Rattle.pipe_steps.specs.Said.{Text, Field, How, Chained, Total, Origin, Middle, Said, Begins, Goes}
use Rattle.pipe_steps.specs.Said as x
use Rattle.pipe_checks.specs.declared.kinds.ValueKind.{ValueKind}
use Rattle.pipe_checks.specs.declared.kinds.ValueKind.TheVariants as k
use Rattle.pipe_checks.specs.Kinds.{has, kind_of}

-- a column holds texts where its expression is one
abbrev pub column_kind : Option ValueKind → ColumnKind
column_kind (Some k.Text) = sorts.Text
column_kind _ = sorts.Int

abbrev pub column : Text → ColumnKind → Column
column n s = record { name = n; kind = s }

-- the column of a named value
abbrev pub made : List Column → Field → Column
made cs f = column f.0 (column_kind (kind_of cs f.1))

abbrev pub how_kind : How → ColumnKind
how_kind (Chained e s) = sorts.Text
how_kind _ = sorts.Int

-- the column of an aggregate
abbrev pub total_column : Total → Column
total_column t = column t.1 (how_kind t.0)

-- the columns of a source
abbrev pub source_columns : Origin → List Column
source_columns (x.Csv cs) = cs
source_columns (x.Range a b c) = column (codes "x") sorts.Int ∷ []

-- the columns after a step, one line for each step that changes them
abbrev pub step_columns : List Column → Middle → List Column
step_columns cs (x.Map fs) = map (made cs) fs
step_columns cs (x.Collect fs e) = map (made cs) fs
step_columns cs (x.ZipWithIndex n) = cs ++ column n sorts.Int ∷ []
step_columns cs (x.ZipRange a b c n) = cs ++ column n sorts.Int ∷ []
step_columns cs (x.Scan how e n) = column n sorts.Int ∷ []
step_columns cs (x.GroupBy ks ts) = map (made cs) ks ++ map total_column ts
step_columns cs _ = cs

-- the columns after a line
abbrev pub columns_after : List Column → Said → List Column
columns_after cs (Begins o) = source_columns o
columns_after cs (Goes m) = step_columns cs m
columns_after cs _ = cs

-- no two columns have one name
abbrev pub are_distinct : List Column → Bool
are_distinct [] = true
are_distinct (c ∷ cs) = not (has cs c.name) && are_distinct cs
