use Rattle.std.proofs.Common.{ap, Some}
use Rattle.std.proofs.lemmas.Result.{err_from_is_err_and}
use Rattle.pipe_expr.specs.Grammar.{view}
use Rattle.pipe_expr.proofs.Whole.{empty_is, fails_whole, found_whole, left_over, one_tree, only_whole}
use Rattle.pipe_expr.proofs.parser.whole_expression.Goals as goal

pub returns-in_err-read-clause-one : goal.returns-in_err-read-clause-one
returns-in_err-read-clause-one c = λ d e a b. one_tree d e c.args.tokens.now a b

pub returns-in_err-read-clause-only : goal.returns-in_err-read-clause-only
returns-in_err-read-clause-only c = λ e r.
    let p = err_from_is_err_and c.from_residual.result c.from_residual.ensures.1 in
    rw (p.1, p.2) (fails_whole c.in_err-read.field-0.0 e c.args.tokens.now c.in_err-read.ensures.gives r)

pub returns-then-is_empty-clause-found : goal.returns-then-is_empty-clause-found
returns-then-is_empty-clause-found c =
    found_whole (view c.in_ok-read.read) c.args.tokens.now c.in_ok-read.rest.now c.in_ok-read.ensures.gives (empty_is c.in_ok-read.rest.now c.if-is_empty.ensures)

pub returns-then-is_empty-clause-one : goal.returns-then-is_empty-clause-one
returns-then-is_empty-clause-one c = λ d e a b. one_tree d e c.args.tokens.now a b

pub returns-then-is_empty-clause-only : goal.returns-then-is_empty-clause-only
returns-then-is_empty-clause-only c = λ e r. ap Some (only_whole (view c.in_ok-read.read) e c.args.tokens.now c.in_ok-read.rest.now c.in_ok-read.ensures.gives r).0

pub returns-else-is_empty-clause-one : goal.returns-else-is_empty-clause-one
returns-else-is_empty-clause-one c = λ d e a b. one_tree d e c.args.tokens.now a b

pub returns-else-is_empty-clause-only : goal.returns-else-is_empty-clause-only
returns-else-is_empty-clause-only c = λ e r.
    absurd (left_over (view c.in_ok-read.read) e c.args.tokens.now c.in_ok-read.rest.now c.in_ok-read.ensures.gives c.if-is_empty.ensures r)
