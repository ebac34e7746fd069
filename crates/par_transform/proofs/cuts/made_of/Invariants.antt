use Rattle.std.proofs.Common.{◌≡◌, List, ◌++◌, length, map}
use Rattle.par_transform.proofs.cuts.made_of.Given as goal

-- what was made of the items so far, and then those that are left
abbrev pub invariant-loop-item : goal.invariant-loop-item
invariant-loop-item g l = (done : List g.row.S-Item-Value.Denot) × record {
  whole : done ++ g.S.Splitter.items l.rest ≡ g.S.Splitter.items l.fn.source;
  made : g.C.Combiner.has (g.C.Shown.shown l.made) (map (g.F.Mapper.mapped l.of) done);
}

abbrev pub decreases-loop-item : goal.decreases-loop-item
decreases-loop-item g l = length (g.S.Splitter.items l.rest)
