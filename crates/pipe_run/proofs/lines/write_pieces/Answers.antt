use Rattle.std.proofs.Common.{◌≡◌, Err, rules}
use Rattle.pipe_run.proofs.Pieces.{piece_written, piece_cut}
use Rattle.pipe_run.proofs.lines.write_pieces.Goals as goal

pub loop-piece-preserved : goal.loop-piece-preserved
loop-piece-preserved g c = piece_written _ _ _ _ _ _ c.loop-piece-test.true c.loop-piece.invariant c.in_ok-write_whole.ensures.all

pub returns-in_err-write_whole : goal.returns-in_err-write_whole
returns-in_err-write_whole g c =
    let e : c.from_residual.result ≡ Err c.in_err-write_whole.field-0.0 = search rules in
    rw e (piece_cut _ _ _ _ _ _ c.loop-piece-test.true c.loop-piece.invariant c.in_err-write_whole.ensures.part)
