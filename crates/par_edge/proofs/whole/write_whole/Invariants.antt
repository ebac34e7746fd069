use Rattle.std.proofs.Common.{length}
use Rattle.par_edge.proofs.Writing.{HasWritten}
use Rattle.par_edge.proofs.whole.write_whole.Given as goal

abbrev pub invariant-loop-rest : goal.invariant-loop-rest
invariant-loop-rest g l = HasWritten (g.K.Sink.state l.fn.sink) (g.K.Sink.state l.sink) l.bytes l.rest

abbrev pub decreases-loop-rest : goal.decreases-loop-rest
decreases-loop-rest g l = length l.rest
