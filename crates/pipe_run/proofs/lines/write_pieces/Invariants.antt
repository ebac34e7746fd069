use Rattle.std.proofs.Common.{take}
use Rattle.par_edge.specs.Sinks.{Appends}
use Rattle.pipe_run.proofs.Pieces.{text_of}
use Rattle.pipe_run.proofs.lines.write_pieces.Given as goal

abbrev pub invariant-loop-piece : goal.invariant-loop-piece
invariant-loop-piece g l = Appends (g.E.Sink.state l.initial.err) (g.E.Sink.state l.err) (text_of (take l.piece-index l.pieces))
