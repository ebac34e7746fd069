use Rattle.std.proofs.lemmas.Result.{err_from_is_err_and}
use Rattle.pipe_checks.specs.Places.{spot}
use Rattle.pipe_checks.proofs.Least.{stopped, settled_accepts, settled_next, settled_refuses}
use Rattle.pipe_checks.proofs.place.judge_line.Goals as goal

pub returns-in_err-line-clause-refused : goal.returns-in_err-line-clause-refused
returns-in_err-line-clause-refused c =
    let p = err_from_is_err_and c.from_residual.result c.from_residual.ensures.1 in
    rw (p.1, p.2) (stopped (spot c.args.place.now) c.args.tokens.now c.in_err-line.field-0.0 c.in_err-line.ensures.stop)

pub returns-clause-accepted : goal.returns-clause-accepted
returns-clause-accepted c = settled_accepts (spot c.args.place.now) c.args.tokens.now c.in_ok-line.line c.settle-settled.result c.beside.result c.beside.ensures.fine c.settle-settled.ensures.fine c.in_ok-line.ensures.read

pub returns-clause-next : goal.returns-clause-next
returns-clause-next c = settled_next (spot c.args.place.now) c.in_ok-line.line c.settle-settled.result c.beside.result c.beside.ensures.fine c.settle-settled.ensures.next

pub returns-clause-refused : goal.returns-clause-refused
returns-clause-refused c = settled_refuses (spot c.args.place.now) c.args.tokens.now c.in_ok-line.line c.settle-settled.result c.beside.result c.beside.ensures.stop c.settle-settled.ensures.stop c.in_ok-line.ensures.read
