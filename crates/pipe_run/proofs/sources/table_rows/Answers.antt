use Rattle.pipe_run.proofs.Sourcing.{few_data}
use Rattle.pipe_run.proofs.sources.table_rows.Goals as goal

pub returns-in-Ok-clause-small : goal.returns-in-Ok-clause-small
returns-in-Ok-clause-small c = few_data _ _ _ c.in-Ok.ensures.table.1
