use Rattle.pipe_print.proofs.Texts.{more_pieces}
use Rattle.pipe_print.proofs.printing.line.Goals as goal

pub loop-one-preserved : goal.loop-one-preserved
loop-one-preserved c =
    more_pieces c.args.version c.extend_from_slice.new.self.items c.loop-one.out.items c.piece.new.out.items c.args.pieces.now c.loop-one.one-index c.one-item.result
    c.loop-one-test.true c.one-item.is c.loop-one.invariant c.in_ok-piece.ensures
