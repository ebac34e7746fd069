-- The words that the language knows, by their bytes.
use Rattle.std.specs.Prelude.{◌==◌, ℕ, List, [], ◌∷◌, Option, Some, None, codes, bytes_eq, if◌then◌else◌}
use Rattle.pipe_expr.specs.declared.token.Reserved.{Reserved}
use Rattle.pipe_expr.specs.declared.token.Reserved.TheVariants as r
use Rattle.pipe_expr.specs.declared.token.Verb.{Verb}
use Rattle.pipe_expr.specs.declared.token.Verb.TheVariants as v

-- `toInt` in version 2 alone
abbrev pub later_reserved : ℕ → List ℕ → Option Reserved
later_reserved version w = if bytes_eq w (codes "toInt") then (if version == 2 then Some r.ToInt else None) else None

-- what a word is where it is reserved in a version
abbrev pub reserved_of : ℕ → List ℕ → Option Reserved
reserved_of version w =
    if bytes_eq w (codes "and") then Some r.And
    else if bytes_eq w (codes "or") then Some r.Or
    else if bytes_eq w (codes "not") then Some r.Not
    else if bytes_eq w (codes "len") then Some r.Len
    else if bytes_eq w (codes "as") then Some r.As
    else if bytes_eq w (codes "when") then Some r.When
    else if bytes_eq w (codes "from") then Some r.From
    else if bytes_eq w (codes "until") then Some r.Until
    else if bytes_eq w (codes "by") then Some r.By
    else if bytes_eq w (codes "split") then Some r.Split
    else if bytes_eq w (codes "range") then Some r.Range
    else if bytes_eq w (codes "csv") then Some r.Csv
    else if bytes_eq w (codes "int") then Some r.Int
    else if bytes_eq w (codes "text") then Some r.Text
    else later_reserved version w

-- which step a word may begin
abbrev pub verb_of : List ℕ → Verb
verb_of w =
    if bytes_eq w (codes "pipeline") then v.Pipeline
    else if bytes_eq w (codes "par") then v.Par
    else if bytes_eq w (codes "array") then v.Array
    else if bytes_eq w (codes "vector") then v.Vector
    else if bytes_eq w (codes "filter") then v.Filter
    else if bytes_eq w (codes "filterNot") then v.FilterNot
    else if bytes_eq w (codes "map") then v.Map
    else if bytes_eq w (codes "collect") then v.Collect
    else if bytes_eq w (codes "flatMap") then v.FlatMap
    else if bytes_eq w (codes "take") then v.Take
    else if bytes_eq w (codes "drop") then v.Drop
    else if bytes_eq w (codes "slice") then v.Slice
    else if bytes_eq w (codes "takeWhile") then v.TakeWhile
    else if bytes_eq w (codes "dropWhile") then v.DropWhile
    else if bytes_eq w (codes "zipWithIndex") then v.ZipWithIndex
    else if bytes_eq w (codes "zip") then v.Zip
    else if bytes_eq w (codes "reverse") then v.Reverse
    else if bytes_eq w (codes "scan") then v.Scan
    else if bytes_eq w (codes "groupBy") then v.GroupBy
    else if bytes_eq w (codes "distinct") then v.Distinct
    else if bytes_eq w (codes "print") then v.Print
    else if bytes_eq w (codes "size") then v.Size
    else if bytes_eq w (codes "count") then v.Count
    else if bytes_eq w (codes "sum") then v.Sum
    else if bytes_eq w (codes "product") then v.Product
    else if bytes_eq w (codes "min") then v.Min
    else if bytes_eq w (codes "max") then v.Max
    else if bytes_eq w (codes "mkString") then v.MkString
    else if bytes_eq w (codes "find") then v.Find
    else if bytes_eq w (codes "exists") then v.Exists
    else if bytes_eq w (codes "forall") then v.Forall
    else if bytes_eq w (codes "indexWhere") then v.IndexWhere
    else if bytes_eq w (codes "lastIndexWhere") then v.LastIndexWhere
    else if bytes_eq w (codes "segmentLength") then v.SegmentLength
    else if bytes_eq w (codes "span") then v.Span
    else if bytes_eq w (codes "partition") then v.Partition
    else if bytes_eq w (codes "splitAt") then v.SplitAt
    else if bytes_eq w (codes "toSet") then v.ToSet
    else if bytes_eq w (codes "toMap") then v.ToMap
    else v.Plain
