use Rattle.std.proofs.Common.{◌≡◌, ◌++◌, List, map}
use Rattle.par_transform.proofs.flattening.add_list.Given as goal

-- what was there, and then the items so far
abbrev pub invariant-loop-item : goal.invariant-loop-item
invariant-loop-item g l = record {
  parts : l.yielded ++ l.item-iterator.rest.items ≡ l.fn.more.items;
  all : (xs : List g.row.C-Item-Value.Denot) → g.C.Combiner.has (g.C.Shown.shown l.fn.made) xs → g.C.Combiner.has (g.C.Shown.shown l.all) (xs ++ map g.C.Item.Shown.shown l.yielded);
}
