use Rattle.std.proofs.Common.{◌≡◌, ◌+◌, ◌∷◌, ap, suc, length, map, arith, rules, []}
use Rattle.std.specs.Str.Lines.{lines}
use Rattle.std.proofs.lemmas.Result.{err_from_is_err_and}
use Rattle.pipe_checks.specs.Places.{spot}
use Rattle.pipe_program.specs.Reading.{numbered}
use Rattle.pipe_program.proofs.Numbering.{behind_all, behind_more, behind_stop, of_line}
use Rattle.pipe_program.proofs.numbered.numbered_lines.Goals as goal

pub returns-in_err-place-clause-stopped : goal.returns-in_err-place-clause-stopped
returns-in_err-place-clause-stopped c =
    let p = err_from_is_err_and c.from_residual.result c.from_residual.ensures.1 in
    rw (p.1, p.2) (behind_stop c.args.text.now c.loop-line.rest.now c.in-Some.line.now c.in-Some.behind.now (spot c.loop-line.place) c.loop-line.at (map numbered c.loop-line.all.items) c.in_err-place.field-0.0
    c.in-Some.ensures.first c.loop-line.invariant c.in_err-place.ensures.stopped)

pub returns-in_err-place-clause-of_line : goal.returns-in_err-place-clause-of_line
returns-in_err-place-clause-of_line c =
    let p = err_from_is_err_and c.from_residual.result c.from_residual.ensures.1 in
    rw (p.1, p.2) (of_line (spot c.loop-line.place) c.in-Some.line.now c.loop-line.at c.in_err-place.field-0.0 c.in_err-place.ensures.stopped)

pub overflow_add-at : goal.overflow_add-at
overflow_add-at c =
    let here : length (lines c.loop-line.rest.now) ≡ suc (length (lines c.in-Some.behind.now)) = ap length c.in-Some.ensures.first in
    omega (arith, here, c.loop-line.invariant.count, c.requires)

pub loop-line-smaller : goal.loop-line-smaller
loop-line-smaller c = search rules

pub loop-line-preserved : goal.loop-line-preserved
loop-line-preserved c =
    let z : c.loop-line.at + 1 ≡ suc c.loop-line.at = omega arith in
    rw z (behind_more c.args.text.now c.loop-line.rest.now c.in-Some.line.now c.in-Some.behind.now (spot c.loop-line.place) (spot c.in_ok-place.place) c.loop-line.at (map numbered c.loop-line.all.items) _
    c.in-Some.ensures.first c.loop-line.invariant c.in_ok-place.ensures.noted)

pub returns-clause-said : goal.returns-clause-said
returns-clause-said c =
    let none : lines c.loop-line.rest.now ≡ [] = search rules in
    behind_all c.args.text.now c.loop-line.rest.now (spot c.loop-line.place) c.loop-line.at (map numbered c.loop-line.all.items) none c.loop-line.invariant
