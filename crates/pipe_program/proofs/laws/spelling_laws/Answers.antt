use Rattle.pipe_program.proofs.Again.{again, each}
use Rattle.pipe_program.proofs.laws.spelling_laws.Goals as goal

pub returns-clause-each : goal.returns-clause-each
returns-clause-each c = each

pub returns-clause-again : goal.returns-clause-again
returns-clause-again c = again c.saying_laws.ensures.one
