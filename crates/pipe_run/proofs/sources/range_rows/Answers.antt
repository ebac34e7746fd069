use Rattle.std.proofs.Math.Facts.{to_z-of_z}
use Rattle.pipe_run.proofs.Sourcing.{few_numbers}
use Rattle.pipe_run.proofs.sources.range_rows.Goals as goal

pub returns-clause-small : goal.returns-clause-small
returns-clause-small c =
    let count = rw (to_z-of_z c.ranges.a, to_z-of_z c.ranges.b, to_z-of_z c.ranges.c) at c.range_count-count.ensures in
    let list = rw (to_z-of_z c.ranges.a, to_z-of_z c.ranges.b, to_z-of_z c.ranges.c) at c.new.ensures.list in
    few_numbers _ _ _ _ _ _ count c.if-count-gt-MAX_ITEMS.false list c.in_ok-rows_of.ensures
