use Rattle.std.proofs.Common.{◌≤◌, ◌∙◌, rules, arith}
use Rattle.pipe_data.proofs.Walk.{next_row}
use Rattle.pipe_data.proofs.table.read_rows.Goals as goal

pub loop-number-preserved : goal.loop-number-preserved
loop-number-preserved c =
    let i = c.loop-number.invariant in
    let few : c.loop-number.number ≤ 4194304 = search (rules, arith) in
    let found = rw c.if-not-found.false at c.in_ok-found.ensures.next in
    (search rules, i.1 ∙ search (rules, next_row, few, found))
