use Rattle.pipe_text.proofs.Spaces.{last, minus, space}
use Rattle.pipe_text.proofs.Settled.{settled, unique}
use Rattle.pipe_text.proofs.Utf8.{line_utf8}
use Rattle.pipe_text.proofs.laws.line_laws.Goals as goal

pub returns-clause-settled : goal.returns-clause-settled
returns-clause-settled c = settled

pub returns-clause-unique : goal.returns-clause-unique
returns-clause-unique c = unique

pub returns-clause-utf8 : goal.returns-clause-utf8
returns-clause-utf8 c = line_utf8

pub returns-clause-space : goal.returns-clause-space
returns-clause-space c = space

pub returns-clause-last : goal.returns-clause-last
returns-clause-last c = last

pub returns-clause-minus : goal.returns-clause-minus
returns-clause-minus c = minus
