use Rattle.std.proofs.Common.{rules, sym, ◌∙◌}
use Rattle.std.proofs.lemmas.List.Sums.{prefix_len-le-length}
use Rattle.pipe_text.specs.Token.{is_name}
use Rattle.pipe_text.proofs.Lexing.{part, quoted_empty, quoted_found, quoted_open}
use Rattle.pipe_text.proofs.front.quoted.Goals as goal

pub returns-then-n-eq0-clause-token : goal.returns-then-n-eq0-clause-token
returns-then-n-eq0-clause-token c = quoted_empty c.args.rest.now (sym c.names-n.ensures ∙ c.if-n-eq0.true)

pub slice_bounds-closed-count : goal.slice_bounds-closed-count
slice_bounds-closed-count c = let a = prefix_len-le-length is_name c.args.rest.now in let b = c.names-n.ensures in search (rules, a)

pub slice_bounds-closed-start : goal.slice_bounds-closed-start
slice_bounds-closed-start c = let a = prefix_len-le-length is_name c.args.rest.now in let b = c.names-n.ensures in search (rules, a)

pub returns-then-not-closed-clause-token : goal.returns-then-not-closed-clause-token
returns-then-not-closed-clause-token c =
    quoted_open c.args.rest.now c.names-n.result c.names-n.ensures (sym (rw (part c.args.rest.now c.names-n.result) at c.if-not-closed.ensures))

pub returns-clause-token : goal.returns-clause-token
returns-clause-token c =
    let a = prefix_len-le-length is_name c.args.rest.now in
    let b = c.names-n.ensures in
    quoted_found c.args.rest.now c.names-n.result c.names-n.ensures c.if-n-eq0.false (search (rules, a)) (sym (rw (part c.args.rest.now c.names-n.result) at c.if-not-closed.ensures))
