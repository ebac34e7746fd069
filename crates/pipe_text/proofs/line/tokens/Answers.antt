use Rattle.std.proofs.Common.{rules, arith}
use Rattle.pipe_text.specs.Token.{view, views}
use Rattle.pipe_text.proofs.Lexing.{ends_few, ends_long, go_blank, go_none, go_token, no_tokens, part}
use Rattle.pipe_text.proofs.line.tokens.Goals as goal

pub loop-at-preserved-then-blank : goal.loop-at-preserved-then-blank
loop-at-preserved-then-blank c =
    go_blank c.args.line.now c.loop-at.at c.loop-at.count (views c.loop-at.kept.items) c.loop-at-test.true (search rules) c.loop-at.invariant

pub returns-in_default-clause-fault : goal.returns-in_default-clause-fault
returns-in_default-clause-fault c =
    no_tokens c.args.line.now (go_none c.args.line.now c.loop-at.at c.loop-at.count (views c.loop-at.kept.items) c.loop-at-test.true (search rules) (rw (part c.args.line.now c.loop-at.at) at c.in_default.ensures.token) c.loop-at.invariant)

pub loop-at-smaller : goal.loop-at-smaller
loop-at-smaller c =
    let step = go_token c.args.line.now c.loop-at.at c.in-Some.n c.loop-at.count (views c.loop-at.kept.items) (view c.in-Some.token) c.loop-at-test.true (search rules) (rw (part c.args.line.now c.loop-at.at) at c.in-Some.ensures.token) c.in-Some.ensures.count c.loop-at.invariant in
    omega (arith, step.0, step.1.within)

pub loop-at-preserved : goal.loop-at-preserved
loop-at-preserved c =
    let step = go_token c.args.line.now c.loop-at.at c.in-Some.n c.loop-at.count (views c.loop-at.kept.items) (view c.in-Some.token) c.loop-at-test.true (search rules) (rw (part c.args.line.now c.loop-at.at) at c.in-Some.ensures.token) c.in-Some.ensures.count c.loop-at.invariant in
    rw c.in_ok-keep.ensures.kept step.1

pub returns-then-count-gt-MAX_TOKENS-clause-fault : goal.returns-then-count-gt-MAX_TOKENS-clause-fault
returns-then-count-gt-MAX_TOKENS-clause-fault c =
    ends_long c.args.line.now c.loop-at.at c.loop-at.count (views c.loop-at.kept.items) c.loop-at-test.false c.if-count-gt-MAX_TOKENS.true c.loop-at.invariant

pub returns-clause-found : goal.returns-clause-found
returns-clause-found c =
    ends_few c.args.line.now c.loop-at.at c.loop-at.count (views c.loop-at.kept.items) c.loop-at-test.false c.if-count-gt-MAX_TOKENS.false c.loop-at.invariant
