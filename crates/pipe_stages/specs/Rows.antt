-- Rows, wherever they lie.
use Rattle.std.specs.Prelude.{List, map}
use Rattle.std.specs.Borrow.{Bor}
use Rattle.par_rows.specs.declared.row.Row.{Row}
use Rattle.pipe_stages.specs.declared.stepped.Stepped.{Stepped}
use Rattle.pipe_stages.specs.declared.stepped.Stepped.TheVariants.{Picked, Made}

-- what references to rows point to
abbrev pub pointed : List (Bor Row) → List Row
pointed refs = map (λ r. r.now) refs

-- the rows after a step
abbrev pub listed : Stepped → List Row
listed (Picked refs) = pointed refs.items
listed (Made rows) = rows.items
