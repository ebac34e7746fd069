use Rattle.std.specs.List.{All}
use Rattle.par_pool.proofs.crew.join_all.Given as goal

abbrev pub invariant-loop-handle : goal.invariant-loop-handle
invariant-loop-handle g l = All (λ w. g.H.Helper.fit l._helper w) l.back.items
