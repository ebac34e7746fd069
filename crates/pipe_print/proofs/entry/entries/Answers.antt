use Rattle.std.proofs.Common.{arith}
use Rattle.pipe_print.proofs.Writing.{all_entries}
use Rattle.pipe_print.proofs.entry.entries.Goals as goal

pub returns : goal.returns
returns g c =
    all_entries c.args.version g.E.Entry.items c.args.out.now.items c.write.new.out.items c.and_more.new.out.items c.args.all.now c.first-item.result
    (omega (arith, c.in-len1-up.len_at_least)) c.first-item.is c.in_ok-write.ensures c.in_ok-and_more.ensures
