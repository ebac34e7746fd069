use Rattle.pipe_run.proofs.Ending.{ended, ended_lawful}
use Rattle.pipe_run.proofs.run.run_main.Goals as goal

pub returns-clause-ends : goal.returns-clause-ends
returns-clause-ends g c = ended _ _ _ _ _ _ _ c.answer_text-text.ensures c.write_text.ensures

pub returns-clause-lawful : goal.returns-clause-lawful
returns-clause-lawful g c = ended_lawful _ _ _ _ _ _ _ c.answer_text-text.ensures c.write_text.ensures
