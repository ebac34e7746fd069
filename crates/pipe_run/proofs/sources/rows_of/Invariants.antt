use Rattle.std.proofs.Common.{◌≡◌, ◌++◌, map, length}
use Rattle.pipe_run.proofs.sources.rows_of.Given as goal

abbrev pub invariant-loop-item : goal.invariant-loop-item
invariant-loop-item g l = l.rows.items ++ map (g.F.Mapper.mapped l.of) (g.S.Splitter.items l.source) ≡ map (g.F.Mapper.mapped l.of) (g.S.Splitter.items l.fn.source)

abbrev pub decreases-loop-item : goal.decreases-loop-item
decreases-loop-item g l = length (g.S.Splitter.items l.source)
