use Rattle.std.proofs.Common.{◌≡◌, rules, Err}
use Rattle.pipe_run.proofs.Deciding.{continued, stopped, lifted}
use Rattle.pipe_run.proofs.sources.data_rows.Goals as goal

pub returns-in_err-bytes-clause-answer : goal.returns-in_err-bytes-clause-answer
returns-in_err-bytes-clause-answer g c =
    let e : c.from_residual.result ≡ Err c.in_err-bytes.field-0.0 = search rules in
    rw e (stopped _ _ _ _ _ (rw c.in_err-bytes.was at c.read_file.ensures.answer))

pub returns-clause-answer : goal.returns-clause-answer
returns-clause-answer g c =
    let bytes = rw c.in_ok-bytes.was at c.read_file.ensures.answer in
    let table = rw c.deref.ensures.value at c.table_rows.ensures.answer in
    continued _ _ _ _ _ _ _ bytes (lifted _ _ _ table)
