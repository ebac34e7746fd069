use Rattle.std.proofs.Common.{inl}
use Rattle.pipe_data.proofs.Steps.{after_read}
use Rattle.pipe_data.proofs.records.next_record.Goals as goal

pub returns-clause-plain : goal.returns-clause-plain
returns-clause-plain c =
    let p = c.requires in
    let after = c.in_ok-found.ensures in
    (after_read c.args.reader.now c.read_byte_record.new.self c.in_ok-found.found _ p (after.reads p.plain p.ready) (inl (after.ready p.plain))).0

pub returns-clause-next : goal.returns-clause-next
returns-clause-next c =
    let p = c.requires in
    let after = c.in_ok-found.ensures in
    (after_read c.args.reader.now c.read_byte_record.new.self c.in_ok-found.found _ p (after.reads p.plain p.ready) (inl (after.ready p.plain))).1
