use Rattle.pipe_run.proofs.Agreeing.{agreed, exact}
use Rattle.pipe_run.proofs.Ending.{refused_status, usage_status}
use Rattle.pipe_run.proofs.program.parcoll.Goals as goal

pub returns-clause-tells : goal.returns-clause-tells
returns-clause-tells g c = record { outcome = c.run_words-outcome.result; is = c.status.ensures; ends = c.run_words-outcome.ensures.ends; said = c.say.ensures }

pub returns-clause-exact : goal.returns-clause-exact
returns-clause-exact g c = rw c.status.ensures (exact _ (agreed (record { unique = c.text_laws.ensures.unique; one_numbering = c.text_laws.ensures.one_numbering }) _) _ _ _ _ _ _ _ c.run_words-outcome.ensures.ends)

pub returns-clause-usage : goal.returns-clause-usage
returns-clause-usage g c = λ e. c.run_words-outcome.ensures.usage (usage_status _ (rw c.status.ensures at e))

pub returns-clause-refused : goal.returns-clause-refused
returns-clause-refused g c = λ e. rw c.status.ensures (refused_status _ (c.run_words-outcome.ensures.refused e))
