use Rattle.std.proofs.Common.{◌≡◌, List, ◌++◌, length}
use Rattle.par_jobs.proofs.keeping.add_all.Given as goal

abbrev pub invariant-loop-item : goal.invariant-loop-item
invariant-loop-item g l = (done : List g.row.S-Item-Value.Denot) × record {
  all : done ++ g.S.Splitter.items l.input ≡ g.S.Splitter.items l.fn.input;
  built : (xs : List g.row.S-Item-Value.Denot) → g.B.Builder.built l.builder xs (g.B.Built.Shown.shown l.fn.value) → g.B.Builder.built l.builder (xs ++ done) (g.B.Built.Shown.shown l.built);
}

abbrev pub decreases-loop-item : goal.decreases-loop-item
decreases-loop-item g l = length (g.S.Splitter.items l.input)
