-- What a line says, without where its parts lie in memory.
use Rattle.std.specs.Prelude.{ℕ, ℤ, List, map}
use Rattle.pipe_expr.specs.Grammar.{Tree}
use Rattle.pipe_expr.specs.Grammar as grammar
use Rattle.par_rows.specs.declared.schema.Column.{Column}
use Rattle.pipe_steps.specs.declared.source.Source.{Source}
use Rattle.pipe_steps.specs.declared.source.Source.TheVariants as sources
use Rattle.pipe_steps.specs.declared.source.Kind.{Kind}
use Rattle.pipe_steps.specs.declared.step.Named.{Named}
use Rattle.pipe_steps.specs.declared.step.Aggregate.{Aggregate}
use Rattle.pipe_steps.specs.declared.step.Aggregate.TheVariants as aggregates
use Rattle.pipe_steps.specs.declared.step.Agg.{Agg}
use Rattle.pipe_steps.specs.declared.step.Running.{Running}
use Rattle.pipe_steps.specs.declared.step.Step.{Step}
use Rattle.pipe_steps.specs.declared.step.Step.TheVariants as steps
use Rattle.pipe_steps.specs.declared.last.Last.{Last}
use Rattle.pipe_steps.specs.declared.last.Last.TheVariants as lasts
use Rattle.pipe_steps.specs.declared.line.Line.{Line}
use Rattle.pipe_steps.specs.declared.line.Line.TheVariants as lines

-- the characters of a name or of a text
abbrev pub Text : Type 0
Text = List ℕ

-- a value with its name
abbrev pub Field : Type 0
Field = Text × Tree

-- what is made of the rows of a group
pub data How : Type 0 where
  Counted : How
  Summed : Tree → How
  Multiplied : Tree → How
  Least : Tree → How
  Greatest : Tree → How
  Chained : Tree → Text → How

-- an aggregate with its name
abbrev pub Total : Type 0
Total = How × Text

-- a source
pub data Origin : Type 0 where
  Csv : List Column → Origin
  Range : ℤ → ℤ → ℤ → Origin

-- a step between the source and the last step
pub data Middle : Type 0 where
  Filter : Tree → Middle
  FilterNot : Tree → Middle
  Map : List Field → Middle
  Collect : List Field → Tree → Middle
  FlatMap : Text → Text → Middle
  Take : ℤ → Middle
  Drop : ℤ → Middle
  Slice : ℤ → ℤ → Middle
  TakeWhile : Tree → Middle
  DropWhile : Tree → Middle
  ZipWithIndex : Text → Middle
  ZipRange : ℤ → ℤ → ℤ → Text → Middle
  Reverse : Middle
  Scan : Running → Tree → Text → Middle
  GroupBy : List Field → List Total → Middle
  Distinct : Middle

-- a last step
pub data End : Type 0 where
  Print : End
  Size : End
  Count : Tree → End
  Sum : Tree → End
  Product : Tree → End
  Min : Tree → End
  Max : Tree → End
  MkString : Tree → Text → End
  Find : Tree → End
  Exists : Tree → End
  Forall : Tree → End
  IndexWhere : Tree → End
  LastIndexWhere : Tree → End
  SegmentLength : Tree → ℤ → End
  Span : Tree → End
  Partition : Tree → End
  SplitAt : ℤ → End
  ToSet : Tree → End
  ToMap : Tree → Tree → End

-- a line
pub data Said : Type 0 where
  Second : Said
  Begins : Origin → Said
  Par : Kind → Said
  Goes : Middle → Said
  Ends : End → Said

-- ---- a line in memory is seen so

abbrev pub named_view : Named → Field
named_view f = (f.name, grammar.view f.of)

abbrev pub how_view : Aggregate → How
how_view aggregates.Count = Counted
how_view (aggregates.Sum e) = Summed (grammar.view e)
how_view (aggregates.Product e) = Multiplied (grammar.view e)
how_view (aggregates.Min e) = Least (grammar.view e)
how_view (aggregates.Max e) = Greatest (grammar.view e)
how_view (aggregates.MkString e s) = Chained (grammar.view e) s

abbrev pub agg_view : Agg → Total
agg_view a = (how_view a.how, a.name)

abbrev pub source_view : Source → Origin
source_view (sources.Csv s) = Csv s.columns.items
source_view (sources.Range a b c) = Range a b c

abbrev pub middle_view : Step → Middle
middle_view (steps.Filter e) = Filter (grammar.view e)
middle_view (steps.FilterNot e) = FilterNot (grammar.view e)
middle_view (steps.Map fs) = Map (map named_view fs.items)
middle_view (steps.Collect fs e) = Collect (map named_view fs.items) (grammar.view e)
middle_view (steps.FlatMap column sep) = FlatMap column sep
middle_view (steps.Take n) = Take n
middle_view (steps.Drop n) = Drop n
middle_view (steps.Slice a b) = Slice a b
middle_view (steps.TakeWhile e) = TakeWhile (grammar.view e)
middle_view (steps.DropWhile e) = DropWhile (grammar.view e)
middle_view (steps.ZipWithIndex name) = ZipWithIndex name
middle_view (steps.ZipRange a b c name) = ZipRange a b c name
middle_view steps.Reverse = Reverse
middle_view (steps.Scan how e name) = Scan how (grammar.view e) name
middle_view (steps.GroupBy keys aggs) = GroupBy (map named_view keys.items) (map agg_view aggs.items)
middle_view steps.Distinct = Distinct

abbrev pub last_view : Last → End
last_view lasts.Print = Print
last_view lasts.Size = Size
last_view (lasts.Count e) = Count (grammar.view e)
last_view (lasts.Sum e) = Sum (grammar.view e)
last_view (lasts.Product e) = Product (grammar.view e)
last_view (lasts.Min e) = Min (grammar.view e)
last_view (lasts.Max e) = Max (grammar.view e)
last_view (lasts.MkString e s) = MkString (grammar.view e) s
last_view (lasts.Find e) = Find (grammar.view e)
last_view (lasts.Exists e) = Exists (grammar.view e)
last_view (lasts.Forall e) = Forall (grammar.view e)
last_view (lasts.IndexWhere e) = IndexWhere (grammar.view e)
last_view (lasts.LastIndexWhere e) = LastIndexWhere (grammar.view e)
last_view (lasts.SegmentLength e n) = SegmentLength (grammar.view e) n
last_view (lasts.Span e) = Span (grammar.view e)
last_view (lasts.Partition e) = Partition (grammar.view e)
last_view (lasts.SplitAt n) = SplitAt n
last_view (lasts.ToSet e) = ToSet (grammar.view e)
last_view (lasts.ToMap k e) = ToMap (grammar.view k) (grammar.view e)

abbrev pub view : Line → Said
view lines.Version = Second
view (lines.Source s) = Begins (source_view s)
view (lines.Par k) = Par k
view (lines.Step s) = Goes (middle_view s)
view (lines.Last l) = Ends (last_view l)
