use Rattle.std.proofs.Common.{◌≡◌, ◌+◌, ◌∷◌, ◌∙◌, ap, suc, length, arith, rules, []}
use Rattle.std.specs.Str.Lines.{lines}
use Rattle.std.proofs.lemmas.Result.{err_from_is_err_and}
use Rattle.pipe_checks.specs.Places.{spot, start}
use Rattle.pipe_program.specs.Parts.{parts}
use Rattle.pipe_program.proofs.Walk.{bears_all, bears_more, ends_read, ends_refused, stops_here}
use Rattle.pipe_program.proofs.reading.parse.Goals as goal

pub loop-line-init : goal.loop-line-init
loop-line-init c = bears_all c.args.text.now (spot c.start-place.result) (parts c.new-draft.result) c.start-place.ensures c.new-draft.ensures

pub returns-in_err-place-clause-stopped : goal.returns-in_err-place-clause-stopped
returns-in_err-place-clause-stopped c =
    let p = err_from_is_err_and c.from_residual.result c.from_residual.ensures.1 in
    rw (p.1, p.2) (stops_here c.args.text.now c.loop-line.rest.now c.in-Some.line.now c.in-Some.behind.now (spot c.loop-line.place) c.loop-line.at (parts c.loop-line.draft) c.in_err-place.field-0.0
    c.in-Some.ensures.first c.loop-line.invariant c.in_err-place.ensures.stopped)

pub overflow_add-at : goal.overflow_add-at
overflow_add-at c =
    let here : length (lines c.loop-line.rest.now) ≡ suc (length (lines c.in-Some.behind.now)) = ap length c.in-Some.ensures.first in
    omega (arith, here, c.loop-line.invariant.1, c.requires)

pub loop-line-smaller : goal.loop-line-smaller
loop-line-smaller c = search rules

pub loop-line-preserved : goal.loop-line-preserved
loop-line-preserved c =
    let z : c.loop-line.at + 1 ≡ suc c.loop-line.at = omega arith in
    rw z (bears_more c.args.text.now c.loop-line.rest.now c.in-Some.line.now c.in-Some.behind.now (spot c.loop-line.place) (spot c.in_ok-place.place) c.loop-line.at (parts c.loop-line.draft) _
    c.in-Some.ensures.first c.loop-line.invariant c.in_ok-place.ensures.took)

pub returns-in-Some-finish-clause-read : goal.returns-in-Some-finish-clause-read
returns-in-Some-finish-clause-read c =
    let none : lines c.loop-line.rest.now ≡ [] = search rules in
    ends_read c.args.text.now c.loop-line.rest.now (spot c.loop-line.place) c.loop-line.at (parts c.loop-line.draft) c.in-Some-finish.pipeline none c.loop-line.invariant c.in-Some-finish.ensures

pub returns-clause-stopped : goal.returns-clause-stopped
returns-clause-stopped c =
    let none : lines c.loop-line.rest.now ≡ [] = search rules in
    rw c.refused.ensures (ends_refused c.args.text.now c.loop-line.rest.now (spot c.loop-line.place) c.loop-line.at (parts c.loop-line.draft) none c.loop-line.invariant c.in-None.ensures)
