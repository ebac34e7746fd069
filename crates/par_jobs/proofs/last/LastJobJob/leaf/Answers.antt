use Rattle.std.proofs.Common.{◌≡◌, ◌+◌, ◌-◌, length, map, [], refl, ap, sym, ◌∙◌, subst, arith}
use Rattle.par_laws.specs.Marks.{IsMarked}
use Rattle.par_signal.specs.Values.{IsHigh}
use Rattle.par_task.specs.Marking.{high_flag, marks_of, halts}
use Rattle.par_task.proofs.Running.{marks_length}
use Rattle.par_jobs.proofs.Lasts.{IsBest, best_begins, best_next, best_good, skip_good, high_later, high_skips, high_ends}
use Rattle.par_jobs.proofs.Scanning.{scan_begins, scan_next, mark_at, later_join}
use Rattle.par_jobs.proofs.last.LastJobJob.leaf.Goals as goal

pub returns-then-hi-flag-clause-seat : goal.returns-then-hi-flag-clause-seat
returns-then-hi-flag-clause-seat g c = high_later _ _ _ c.high-flag.ensures.seen c.high-flag.ensures.rises

pub returns-then-hi-flag-clause-leaf : goal.returns-then-hi-flag-clause-leaf
returns-then-hi-flag-clause-leaf g c =
    let source = g.S.Splitter.items c.args.self.now.marked.split in
    let verdicts = map (g.P.Test.verdict c.args.self.now.marked.inner) source in
    let marks = marks_of high_flag verdicts in
    let size : length source ≡ length marks = marks_length high_flag (g.P.Test.verdict c.args.self.now.marked.inner) source _ refl in
    let flag_is : IsHigh marks c.high-flag.result = subst (λ m. IsHigh m c.high-flag.result) c.requires.marks c.high-flag.ensures.names in
    let z : c.args.probe.now.made - c.args.probe.now.made ≡ 0 = omega arith in
    rw z (high_skips marks _ _ _ _ _ flag_is c.high-flag.ensures.rises (omega (arith, c.span-lo.ensures.hi, c.if-hi-flag.true)))

pub returns-then-hi-flag-clause-good : goal.returns-then-hi-flag-clause-good
returns-then-hi-flag-clause-good g c =
    let source = g.S.Splitter.items c.args.self.now.marked.split in
    let verdicts = map (g.P.Test.verdict c.args.self.now.marked.inner) source in
    let marks = marks_of high_flag verdicts in
    let size : length source ≡ length marks = marks_length high_flag (g.P.Test.verdict c.args.self.now.marked.inner) source _ refl in
    let flag_is : IsHigh marks c.high-flag.result = subst (λ m. IsHigh m c.high-flag.result) c.requires.marks c.high-flag.ensures.names in
    let lo = c.span-lo.ensures.lo in
    let hi = c.span-lo.ensures.hi in
    skip_good marks _ _ _ _ flag_is (omega (arith, hi, c.if-hi-flag.true)) (λ h. c.skipped.ensures.some (omega (arith, h, lo, hi))) (λ h. c.skipped.ensures.none (omega (arith, h, lo, hi))) (omega arith)

pub loop-item-init : goal.loop-item-init
loop-item-init g c =
    let source = g.S.Splitter.items c.args.self.now.marked.split in
    let verdicts = map (g.P.Test.verdict c.args.self.now.marked.inner) source in
    let marks = marks_of high_flag verdicts in
    let size : length source ≡ length marks = marks_length high_flag (g.P.Test.verdict c.args.self.now.marked.inner) source _ refl in
    let begun : c.span-lo.result.0 ≡ g.S.Splitter.lo c.args.input = c.span-lo.ensures.lo in
    rw begun (record {
      scan = scan_begins source [] (g.S.Splitter.lo c.args.input) _ c.requires.part;
      place = refl;
      lo_is = refl;
      inner = refl;
      made = refl;
      best = best_begins marks (g.S.Splitter.lo c.args.input);
    })

pub loop-item-preserved : goal.loop-item-preserved
loop-item-preserved g c =
    let source = g.S.Splitter.items c.args.self.now.marked.split in
    let verdicts = map (g.P.Test.verdict c.args.self.now.marked.inner) source in
    let marks = marks_of high_flag verdicts in
    let size : length source ≡ length marks = marks_length high_flag (g.P.Test.verdict c.args.self.now.marked.inner) source _ refl in
    let i = c.loop-item.invariant in
    let scan = rw c.in-Some.ensures.first at i.scan in
    let v = c.test.ensures.answer ∙ ap (λ p. g.P.Test.verdict p (g.S.Item.Shown.shown c.in-Some.item)) i.inner in
    let mark = mark_at (g.P.Test.verdict c.args.probe.now.inner) source _ c.requires.test high_flag c.loop-item.at _ _ scan.span ∙ (ap halts (sym v) ∙ sym c.is_halt-halt.ensures) in
    record {
      scan = scan_next source _ _ _ c.loop-item.at _ _ scan refl;
      place = c.in-Some.ensures.lo_next ∙ ap (λ k. k + 1) i.place;
      lo_is = i.lo_is;
      inner = c.test.ensures.inner ∙ i.inner;
      made = omega (arith, c.test.ensures.made, i.made);
      best = best_next marks _ c.loop-item.at _ _ c.is_halt-halt.result scan.from mark c.later-last.ensures.some c.later-last.ensures.none i.best;
    }

pub tell-requires-clause-marked : goal.tell-requires-clause-marked
tell-requires-clause-marked g c = λ k e. subst (λ w. IsMarked w k) (sym c.requires.marks) (c.loop-item.invariant.best.some k e).marked

pub returns-clause-seat : goal.returns-clause-seat
returns-clause-seat g c = later_join _ _ _ (high_later _ _ _ c.high-flag.ensures.seen c.high-flag.ensures.rises) c.tell.ensures.later

pub returns-clause-leaf : goal.returns-clause-leaf
returns-clause-leaf g c =
    let source = g.S.Splitter.items c.args.self.now.marked.split in
    let verdicts = map (g.P.Test.verdict c.args.self.now.marked.inner) source in
    let marks = marks_of high_flag verdicts in
    let size : length source ≡ length marks = marks_length high_flag (g.P.Test.verdict c.args.self.now.marked.inner) source _ refl in
    let flag_is : IsHigh marks c.high-flag.result = subst (λ m. IsHigh m c.high-flag.result) c.requires.marks c.high-flag.ensures.names in
    let i = c.loop-item.invariant in
    let scan = rw i.lo_is at i.scan in
    let best = rw i.lo_is at i.best in
    let e : c.loop-item.at ≡ g.S.Splitter.lo c.args.input + length (g.S.Splitter.items c.args.input) = omega (arith, scan.ends, ap length c.in_default.ensures.none) in
    let whole : IsBest marks (g.S.Splitter.lo c.args.input) (g.S.Splitter.lo c.args.input + length (g.S.Splitter.items c.args.input)) c.loop-item.last = subst (λ k. IsBest marks (g.S.Splitter.lo c.args.input) k c.loop-item.last) e best in
    high_ends marks _ _ _ _ _ _ _ flag_is c.high-flag.ensures.rises (omega (arith, c.span-lo.ensures.hi, c.if-hi-flag.false)) (omega (arith, e, i.made, i.lo_is, scan.from)) whole c.tell.ensures.told

pub returns-clause-good : goal.returns-clause-good
returns-clause-good g c =
    let source = g.S.Splitter.items c.args.self.now.marked.split in
    let verdicts = map (g.P.Test.verdict c.args.self.now.marked.inner) source in
    let marks = marks_of high_flag verdicts in
    let size : length source ≡ length marks = marks_length high_flag (g.P.Test.verdict c.args.self.now.marked.inner) source _ refl in
    let i = c.loop-item.invariant in
    let scan = rw i.lo_is at i.scan in
    let best = rw i.lo_is at i.best in
    let e : c.loop-item.at ≡ g.S.Splitter.lo c.args.input + length (g.S.Splitter.items c.args.input) = omega (arith, scan.ends, ap length c.in_default.ensures.none) in
    best_good marks _ _ _ (subst (λ k. IsBest marks (g.S.Splitter.lo c.args.input) k c.loop-item.last) e best)
