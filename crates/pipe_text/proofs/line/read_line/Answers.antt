use Rattle.std.proofs.Common.{rules}
use Rattle.std.specs.Str.{IsUtf8}
use Rattle.pipe_text.proofs.Utf8.{read_utf8}
use Rattle.pipe_text.proofs.Settled.{settled, unique}
use Rattle.pipe_text.proofs.line.read_line.Goals as goal

pub returns-clause-utf8 : goal.returns-clause-utf8
returns-clause-utf8 c =
    let good : IsUtf8 c.args.line.now = search (rules, c.from_utf8.ensures.cases) in
    read_utf8 c.args.line.now c.tokens.result good c.tokens.ensures.found

pub returns-clause-settled : goal.returns-clause-settled
returns-clause-settled c = settled c.args.line.now

pub returns-clause-unique : goal.returns-clause-unique
returns-clause-unique c = unique c.args.line.now
