use Rattle.std.proofs.Common.{rules, ◌<◌, ◌+◌, length}
use Rattle.pipe_text.proofs.Cuts.{before_end, line_cut, line_whole}
use Rattle.pipe_text.proofs.Lexing.{part}
use Rattle.pipe_text.proofs.line.first_line.Goals as goal

pub returns-then-n-text-clause-first : goal.returns-then-n-text-clause-first
returns-then-n-text-clause-first c =
    let some : 0 < length c.args.text.now = search (rules, c.if-is_empty.ensures) in
    rw (part c.args.text.now c.line_len-n.result) (line_whole c.args.text.now c.line_len-n.result c.line_len-n.ensures c.if-n-text.true some)

pub returns-clause-first : goal.returns-clause-first
returns-clause-first c =
    let inside : c.line_len-n.result < length c.args.text.now = before_end c.args.text.now c.line_len-n.result c.line_len-n.ensures c.if-n-text.false in
    rw (part c.args.text.now (c.line_len-n.result + 1), c.without_return.ensures) (line_cut c.args.text.now c.line_len-n.result c.line_len-n.ensures inside)
