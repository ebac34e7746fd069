use Rattle.std.proofs.Common.{arith}
use Rattle.std.proofs.lemmas.Result.{err_from_is_err_and}
use Rattle.pipe_expr.specs.Grammar.{view}
use Rattle.pipe_expr.specs.Reading.{seen, read}
use Rattle.pipe_expr.proofs.Basics.{some_inj}
use Rattle.pipe_expr.proofs.Steps.{level_zero, level_four, level_fails, level_goes, chain_ends, chain_stops, chain_fails, chain_goes, chain_once}
use Rattle.pipe_expr.proofs.parser.+parser.Goals as goal

pub at_level-returns-then-level-eq0-clause-gives : goal.at_level-returns-then-level-eq0-clause-gives
at_level-returns-then-level-eq0-clause-gives t c = level_zero c.operand.result seen c.args.level c.args.tokens.now c.if-level-eq0.true c.operand.ensures.gives

pub at_level-returns-then-level-eq4-clause-gives : goal.at_level-returns-then-level-eq4-clause-gives
at_level-returns-then-level-eq4-clause-gives t c = level_four c.negation.result seen c.args.level c.args.tokens.now c.if-level-eq4.true c.negation.ensures.gives

pub at_level-returns-in_err-left-clause-gives : goal.at_level-returns-in_err-left-clause-gives
at_level-returns-in_err-left-clause-gives t c =
    let p = err_from_is_err_and c.from_residual.result c.from_residual.ensures.1 in
    rw (p.1, p.2) (level_fails c.in_err-left.field-0.0 c.args.level c.args.tokens.now c.if-level-eq0.false c.if-level-eq4.false c.in_err-left.ensures.gives)

pub at_level-returns-clause-gives : goal.at_level-returns-clause-gives
at_level-returns-clause-gives t c =
    level_goes c.go_on.result seen c.args.level c.args.tokens.now (view c.in_ok-left.left) c.in_ok-left.rest.now c.if-level-eq0.false c.if-level-eq4.false c.in_ok-left.ensures.shorter c.in_ok-left.ensures.gives c.go_on.ensures.gives

pub go_on-returns-in_default-clause-gives : goal.go_on-returns-in_default-clause-gives
go_on-returns-in_default-clause-gives t c = λ n m a b. chain_ends _ _ m _ c.args.tokens.now c.in_default.ensures.cases b

pub go_on-returns-in_default-operator_at-clause-gives : goal.go_on-returns-in_default-operator_at-clause-gives
go_on-returns-in_default-operator_at-clause-gives t c = λ n m a b.
    chain_stops _ c.args.level m _ c.args.tokens.now c.in-Some.token.now c.in-Some.rest.now c.in-Some.ensures.cases.0 c.in_default-operator_at.ensures b

pub go_on-returns-in_err-right-clause-gives : goal.go_on-returns-in_err-right-clause-gives
go_on-returns-in_err-right-clause-gives t c = λ n m a b.
    let p = err_from_is_err_and c.from_residual.result c.from_residual.ensures.1 in
    rw (p.1, p.2) (chain_fails c.in_err-right.field-0.0 _ c.args.level m _ c.args.tokens.now c.in-Some.token.now c.in-Some.rest.now c.in-Some-operator_at.op c.in-Some.ensures.cases.0 c.in-Some-operator_at.ensures
    (c.in_err-right.ensures.gives n (omega (arith, a, c.in-Some.ensures.cases.1, c.requires.0, c.requires.1))) b)

pub go_on-returns-clause-gives : goal.go_on-returns-clause-gives
go_on-returns-clause-gives t c = λ n m a b.
    let more_tokens = c.in-Some.ensures.cases.1 in
    let less = c.in_ok-right.ensures.shorter in
    chain_goes c.go_on.result seen (read n _) c.args.level m (view c.args.left) c.args.tokens.now c.in-Some.token.now c.in-Some.rest.now c.in-Some-operator_at.op (view c.in_ok-right.right) (view c.in_ok-both.both) c.in_ok-right.rest.now c.if-level-eq3.false
    c.in-Some.ensures.cases.0 c.in-Some-operator_at.ensures
    (c.in_ok-right.ensures.gives n (omega (arith, a, more_tokens, c.requires.0, c.requires.1)))
    (some_inj _ _ c.in_ok-both.ensures)
    (λ m' lt. c.go_on.ensures.gives n m' (omega (arith, a, more_tokens, less)) lt) less more_tokens b

pub go_on-returns-then-level-eq3-clause-gives : goal.go_on-returns-then-level-eq3-clause-gives
go_on-returns-then-level-eq3-clause-gives t c = λ n m a b.
    let more_tokens = c.in-Some.ensures.cases.1 in
    chain_once (read n _) c.args.level m (view c.args.left) c.args.tokens.now c.in-Some.token.now c.in-Some.rest.now c.in-Some-operator_at.op (view c.in_ok-right.right) (view c.in_ok-both.both) c.in_ok-right.rest.now
    c.if-level-eq3.true c.in-Some.ensures.cases.0 c.in-Some-operator_at.ensures
    (c.in_ok-right.ensures.gives n (omega (arith, a, more_tokens, c.requires.0, c.requires.1)))
    (some_inj _ _ c.in_ok-both.ensures) b
