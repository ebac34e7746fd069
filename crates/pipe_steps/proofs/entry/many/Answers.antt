use Rattle.std.proofs.Common.{rules, arith, ◌≡◌, ◌-◌, ◌∷◌, ◌++◌, ◌∙◌, sym, ap, [], length, map, true}
use Rattle.std.specs.Result.{is_ok}
use Rattle.std.proofs.lemmas.List.{map-append}
use Rattle.std.proofs.lemmas.Result.{err_from_is_err_and}
use Rattle.pipe_steps.proofs.Lists.{list_fails, list_last, list_more}
use Rattle.pipe_steps.proofs.entry.many.Goals as goal

pub returns-in_err-one : goal.returns-in_err-one
returns-in_err-one g c =
    let i = c.loop-all.invariant in
    let p = err_from_is_err_and c.from_residual.result c.from_residual.ensures.1 in
    rw (p.1, p.2) (list_fails c.in_err-one.field-0.0 g.E.Entry.at i.0 (map g.E.Entry.seen c.loop-all.all.items) c.loop-all.rest.now _ c.in_err-one.ensures.gives i.2)

pub returns-in-None : goal.returns-in-None
returns-in-None g c =
    let i = c.loop-all.invariant in
    let good : is_ok c.push.result ≡ true = search rules in
    let items = rw good at c.push.ensures.items in
    rw (items, map-append g.E.Entry.seen c.loop-all.all.items (c.in_ok-one.one ∷ []))
    (sym i.2 ∙ list_last g.E.Entry.at i.0 (map g.E.Entry.seen c.loop-all.all.items) c.loop-all.rest.now c.in_ok-one.after.now (g.E.Entry.seen c.in_ok-one.one) c.in_ok-one.ensures.gives c.in-None.ensures.gives c.in_ok-one.ensures.shorter i.1)

pub loop-all-preserved : goal.loop-all-preserved
loop-all-preserved g c =
    let i = c.loop-all.invariant in
    let good : is_ok c.push.result ≡ true = search rules in
    let items = rw good at c.push.ensures.items in
    let less = c.in_ok-one.ensures.shorter in
    let lesser = c.in-Some.ensures.shorter in (
      i.0 - 1,
      omega (arith, less, lesser, i.1),
      rw (items, map-append g.E.Entry.seen c.loop-all.all.items (c.in_ok-one.one ∷ []))
          (sym (list_more g.E.Entry.at i.0 (map g.E.Entry.seen c.loop-all.all.items) c.loop-all.rest.now c.in_ok-one.after.now c.in-Some.next.now (g.E.Entry.seen c.in_ok-one.one) c.in_ok-one.ensures.gives c.in-Some.ensures.gives less i.1) ∙ i.2),
    )
