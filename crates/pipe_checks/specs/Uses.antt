-- The expressions of a line, each with the kind that it must have.
use Rattle.std.specs.Prelude.{◌&&◌, Bool, true, List}
use Rattle.std.specs.List.{list_all}
use Rattle.pipe_expr.specs.Grammar.{Tree}
use Rattle.pipe_steps.specs.Said.{Field, How, Counted, Summed, Multiplied, Least, Greatest, Chained, Total, Middle, End, Said, Goes, Ends}
use Rattle.pipe_steps.specs.Said as x
use Rattle.pipe_checks.specs.declared.uses.Want.{Want}
use Rattle.pipe_checks.specs.declared.uses.Want.TheVariants as w

-- what is asked of an expression and the kind that it must have
abbrev pub Asked : Type 0
Asked = Want → Tree → Bool

abbrev pub fields_pass : Asked → List Field → Bool
fields_pass ask fs = list_all (λ f. ask w.Shown f.1) fs

abbrev pub how_passes : Asked → How → Bool
how_passes ask Counted = true
how_passes ask (Summed e) = ask w.Number e
how_passes ask (Multiplied e) = ask w.Number e
how_passes ask (Least e) = ask w.Number e
how_passes ask (Greatest e) = ask w.Number e
how_passes ask (Chained e s) = ask w.Shown e

abbrev pub totals_pass : Asked → List Total → Bool
totals_pass ask xs = list_all (λ t. how_passes ask t.0) xs

abbrev pub middle_passes : Asked → Middle → Bool
middle_passes ask (x.Filter e) = ask w.Truth e
middle_passes ask (x.FilterNot e) = ask w.Truth e
middle_passes ask (x.Map fs) = fields_pass ask fs
middle_passes ask (x.Collect fs e) = fields_pass ask fs && ask w.Truth e
middle_passes ask (x.TakeWhile e) = ask w.Truth e
middle_passes ask (x.DropWhile e) = ask w.Truth e
middle_passes ask (x.Scan how e n) = ask w.Number e
middle_passes ask (x.GroupBy ks xs) = fields_pass ask ks && totals_pass ask xs
middle_passes ask _ = true

abbrev pub end_passes : Asked → End → Bool
end_passes ask x.Print = true
end_passes ask x.Size = true
end_passes ask (x.SplitAt n) = true
end_passes ask (x.Sum e) = ask w.Number e
end_passes ask (x.Product e) = ask w.Number e
end_passes ask (x.Min e) = ask w.Number e
end_passes ask (x.Max e) = ask w.Number e
end_passes ask (x.MkString e s) = ask w.Shown e
end_passes ask (x.ToSet e) = ask w.Shown e
end_passes ask (x.ToMap k e) = ask w.Shown k && ask w.Shown e
end_passes ask (x.Count e) = ask w.Truth e
end_passes ask (x.Find e) = ask w.Truth e
end_passes ask (x.Exists e) = ask w.Truth e
end_passes ask (x.Forall e) = ask w.Truth e
end_passes ask (x.IndexWhere e) = ask w.Truth e
end_passes ask (x.LastIndexWhere e) = ask w.Truth e
end_passes ask (x.SegmentLength e n) = ask w.Truth e
end_passes ask (x.Span e) = ask w.Truth e
end_passes ask (x.Partition e) = ask w.Truth e

-- each expression of the line passes
abbrev pub every : Asked → Said → Bool
every ask (Goes m) = middle_passes ask m
every ask (Ends l) = end_passes ask l
every ask _ = true
