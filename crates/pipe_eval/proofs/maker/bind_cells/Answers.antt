use Rattle.pipe_checks.specs.Kinds.{fits}
use Rattle.pipe_eval.proofs.Naming.{each_passes}
use Rattle.pipe_eval.proofs.maker.bind_cells.Goals as goal

pub bind_cell-requires : goal.bind_cell-requires
bind_cell-requires c =
    let passes = each_passes (fits c.args.columns.now) c.args.list.now c.loop-named.named-index c.named-item.result c.requires c.loop-named-test.true in
    rw c.named-item.is passes
