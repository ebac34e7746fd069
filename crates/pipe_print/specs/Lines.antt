-- The lines of a printed pipeline: one line for each step.
use Rattle.std.specs.Prelude.{◌==◌, ℕ, ℤ, pos, List, [], ◌∷◌, ◌++◌, map, codes, if◌then◌else◌}
use Rattle.std.specs.List.{flat_map}
use Rattle.pipe_text.specs.declared.lexeme.Symbol.{Symbol}
use Rattle.pipe_text.specs.declared.lexeme.Symbol.TheVariants as m
use Rattle.pipe_expr.specs.Grammar.{Tree}
use Rattle.pipe_expr.specs.Grammar as grammar
use Rattle.par_rows.specs.declared.schema.Column.{Column}
use Rattle.pipe_steps.specs.declared.source.Kind.{Kind}
use Rattle.pipe_steps.specs.declared.source.Kind.TheVariants as kinds
use Rattle.pipe_steps.specs.declared.step.Running.{Running}
use Rattle.pipe_steps.specs.declared.step.Running.TheVariants as runnings
use Rattle.pipe_steps.specs.Said.{Field, Total, Text, Middle, End, Said, Second, Begins, Par, Goes, Ends, agg_view, named_view}
use Rattle.pipe_steps.specs.Said as x
use Rattle.pipe_program.specs.Plans.{Plan}
use Rattle.pipe_print.specs.Items.{Item, column_items, commas, field_items, key_items, spaced, total_items, tree_items}
use Rattle.pipe_print.specs.Items as items
use Rattle.pipe_print.specs.declared.piece.Piece.{Piece}
use Rattle.pipe_print.specs.declared.piece.Piece.TheVariants as p

-- a part of a line: an item, an expression or a list
pub data Part : Type 0 where
  Fixed : List ℕ → Part
  Mark : Symbol → Part
  Name : Text → Part
  Int : ℤ → Part
  Quote : Text → Part
  Value : Tree → Part
  Columns : List Column → Part
  Fields : List Field → Part
  Keys : List Field → Part
  Totals : List Total → Part

abbrev pub part_items : Part → List Item
part_items (Fixed w) = items.Fixed w ∷ []
part_items (Mark k) = items.Mark k ∷ []
part_items (Name w) = items.Name w ∷ []
part_items (Int z) = items.Int z ∷ []
part_items (Quote s) = items.Quote s ∷ []
part_items (Value e) = tree_items e
part_items (Columns cs) = commas column_items cs
part_items (Fields fs) = commas field_items fs
part_items (Keys fs) = commas key_items fs
part_items (Totals ts) = commas total_items ts

abbrev pub parts_items : List Part → List Item
parts_items ps = flat_map part_items ps

-- ---- the lines, one for each step: its first word, and what stands behind it

-- a line
abbrev pub Written : Type 0
Written = List ℕ × List Part

abbrev pub kind_text : Kind → List ℕ
kind_text kinds.Array = codes "array"
kind_text kinds.Vector = codes "vector"

abbrev pub running_text : Running → List ℕ
running_text runnings.Sum = codes "sum"
running_text runnings.Product = codes "product"

abbrev pub middle_line : Middle → Written
middle_line (x.Filter e) = (codes "filter", Value e ∷ [])
middle_line (x.FilterNot e) = (codes "filterNot", Value e ∷ [])
middle_line (x.Map fs) = (codes "map", Fields fs ∷ [])
middle_line (x.Collect fs e) = (codes "collect", Fields fs ∷ Fixed (codes "when") ∷ Value e ∷ [])
middle_line (x.FlatMap n s) = (codes "flatMap", Fixed (codes "split") ∷ Name n ∷ Quote s ∷ [])
middle_line (x.Take n) = (codes "take", Int n ∷ [])
middle_line (x.Drop n) = (codes "drop", Int n ∷ [])
middle_line (x.Slice a b) = (codes "slice", Int a ∷ Fixed (codes "until") ∷ Int b ∷ [])
middle_line (x.TakeWhile e) = (codes "takeWhile", Value e ∷ [])
middle_line (x.DropWhile e) = (codes "dropWhile", Value e ∷ [])
middle_line (x.ZipWithIndex n) = (codes "zipWithIndex", Fixed (codes "as") ∷ Name n ∷ [])
middle_line (x.ZipRange a b c n) = (codes "zip", Fixed (codes "range") ∷ Int a ∷ Fixed (codes "until") ∷ Int b ∷ Fixed (codes "by") ∷ Int c ∷ Fixed (codes "as") ∷ Name n ∷ [])
middle_line x.Reverse = (codes "reverse", [])
middle_line (x.Scan how e n) = (codes "scan", Fixed (running_text how) ∷ Value e ∷ Fixed (codes "as") ∷ Name n ∷ [])
middle_line (x.GroupBy ks ts) = (codes "groupBy", Keys ks ∷ Mark m.Colon ∷ Totals ts ∷ [])
middle_line x.Distinct = (codes "distinct", [])

abbrev pub last_line : End → Written
last_line x.Print = (codes "print", [])
last_line x.Size = (codes "size", [])
last_line (x.Count e) = (codes "count", Value e ∷ [])
last_line (x.Sum e) = (codes "sum", Value e ∷ [])
last_line (x.Product e) = (codes "product", Value e ∷ [])
last_line (x.Min e) = (codes "min", Value e ∷ [])
last_line (x.Max e) = (codes "max", Value e ∷ [])
last_line (x.MkString e s) = (codes "mkString", Value e ∷ Quote s ∷ [])
last_line (x.Find e) = (codes "find", Value e ∷ [])
last_line (x.Exists e) = (codes "exists", Value e ∷ [])
last_line (x.Forall e) = (codes "forall", Value e ∷ [])
last_line (x.IndexWhere e) = (codes "indexWhere", Value e ∷ [])
last_line (x.LastIndexWhere e) = (codes "lastIndexWhere", Value e ∷ [])
last_line (x.SegmentLength e n) = (codes "segmentLength", Value e ∷ Fixed (codes "from") ∷ Int n ∷ [])
last_line (x.Span e) = (codes "span", Value e ∷ [])
last_line (x.Partition e) = (codes "partition", Value e ∷ [])
last_line (x.SplitAt n) = (codes "splitAt", Int n ∷ [])
last_line (x.ToSet e) = (codes "toSet", Value e ∷ [])
last_line (x.ToMap k e) = (codes "toMap", Value k ∷ Mark m.Arrow ∷ Value e ∷ [])

abbrev pub line_of : Said → Written
line_of Second = (codes "pipeline", Int (pos 2) ∷ [])
line_of (Begins (x.Csv cs)) = (codes "from", Fixed (codes "csv") ∷ Columns cs ∷ [])
line_of (Begins (x.Range a b c)) = (codes "from", Fixed (codes "range") ∷ Int a ∷ Fixed (codes "until") ∷ Int b ∷ Fixed (codes "by") ∷ Int c ∷ [])
line_of (Par k) = (codes "par", Fixed (kind_text k) ∷ [])
line_of (Goes m) = middle_line m
line_of (Ends l) = last_line l

-- ---- the text

-- the bytes of a line without its end
abbrev pub line_text : ℕ → Said → List ℕ
line_text version y = (line_of y).0 ++ spaced version (parts_items (line_of y).1)

-- each line ends with a line feed
abbrev pub ended : ℕ → Said → List ℕ
ended version y = line_text version y ++ 10 ∷ []

-- version 2 has a first line of its own
abbrev pub heading : ℕ → List Said
heading version = if version == 2 then Second ∷ [] else []

-- the lines of the canonical text: the version if it is 2, the source, always a `par` line, the steps and the last step
abbrev pub canonical : Plan → List Said
canonical p = heading p.version ++ Begins p.origin ∷ Par p.kind ∷ (map Goes p.middles ++ Ends p.last ∷ [])

-- the one canonical text of a plan
abbrev pub written_text : Plan → List ℕ
written_text p = flat_map (ended p.version) (canonical p)

-- ---- what the printer is given

abbrev pub piece : Piece → Part
piece (p.Fixed w) = Fixed w.now
piece (p.Mark k) = Mark k
piece (p.Name w) = Name w.now
piece (p.Int z) = Int z
piece (p.Quote s) = Quote s.now
piece (p.Value e) = Value (grammar.view e.now)
piece (p.Columns cs) = Columns cs.now
piece (p.Fields fs) = Fields (map named_view fs.now)
piece (p.Keys fs) = Keys (map named_view fs.now)
piece (p.Totals ts) = Totals (map agg_view ts.now)
