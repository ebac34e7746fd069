use Rattle.std.proofs.Common.{◌≡◌, ◌+◌, ◌-◌, ◌≤◌, ◌<◌, length, map, refl, ap, sym, ◌∙◌, subst, arith}
use Rattle.par_laws.specs.Marks.{IsMarked, Clear}
use Rattle.par_task.specs.Marking.{abort_flag, marks_of, passes}
use Rattle.par_task.specs.Leaves.{IsReadAgain}
use Rattle.par_task.proofs.Running.{marks_length}
use Rattle.par_jobs.proofs.Faults.{fault_begins, not_found_is}
use Rattle.par_jobs.proofs.Searching.{IsSearching, search_few, search_met}
use Rattle.par_jobs.proofs.Scanning.{scan_begins, mark_at, abort_skips, abort_finds, abort_breaks, abort_ends, unset_going, going_join, going_fresh}
use Rattle.par_jobs.proofs.search.seek.Goals as goal
use Rattle.par_jobs.proofs.search.seek.Goals.{in-All, in-Met+else-pass}

pub returns-in-Some-clause-leaf : goal.returns-in-Some-clause-leaf
returns-in-Some-clause-leaf g c =
    let source = g.S.Splitter.items c.args.marked.now.split in
    let verdicts = map (g.P.Test.verdict c.args.marked.now.inner) source in
    let marks = marks_of abort_flag verdicts in
    let size : length source ≡ length marks = marks_length abort_flag (g.P.Test.verdict c.args.marked.now.inner) source _ refl in
    let d = rw c.in-Some.is at c.in_ok-i.ensures.read in
    let m = subst (λ w. IsMarked w c.in-Some.i) c.requires.marks d.marked in
    let z : c.args.probe.now.made - c.args.probe.now.made ≡ 0 = omega arith in
    rw (c.found.ensures, z) (abort_skips marks _ _ _ _ _ size (omega (arith, c.requires.part.within)) c.in-Some.i m d.set (λ a f. d.by_another a f.abort))

pub returns-in-Some-clause-good : goal.returns-in-Some-clause-good
returns-in-Some-clause-good g c =
    let d = rw c.in-Some.is at c.in_ok-i.ensures.read in rw c.found.ensures (subst (λ w. IsMarked w c.in-Some.i) c.requires.marks d.marked)

pub loop-input-init : goal.loop-input-init
loop-input-init g c =
    let source = g.S.Splitter.items c.args.marked.now.split in
    let verdicts = map (g.P.Test.verdict c.args.marked.now.inner) source in
    let marks = marks_of abort_flag verdicts in
    let begun : c.span-lo.result.0 ≡ g.S.Splitter.lo c.args.input = c.span-lo.ensures.lo in
    let d = rw c.in_default.is at c.in_ok-i.ensures.read in
    rw begun (record {
      on = record { scan = scan_begins source marks (g.S.Splitter.lo c.args.input) _ c.requires.part; first = fault_begins verdicts (g.S.Splitter.lo c.args.input) };
      lo_is = refl;
      flag_is = c.count-flag.ensures;
      inner = refl;
      made = refl;
      unset = d.unset;
      seat = unset_going _ _ d;
    })

pub abort-requires-clause-marked : goal.abort-requires-clause-marked
abort-requires-clause-marked g c =
    let source = g.S.Splitter.items c.args.marked.now.split in
    let V = g.P.Test.verdict c.args.marked.now.inner in
    let few = rw c.in-Met.is at c.in_ok-few.ensures.few in
    let mark = mark_at V source _ refl abort_flag c.in_ok-few.few.at _ _ few.scan.span ∙ (ap passes (sym few.ended.0) ∙ (sym c.is_pass-pass.ensures ∙ c.if-pass.true)) in
    subst (λ w. IsMarked w c.in_ok-few.few.at) (sym c.requires.marks) mark

pub returns-then-pass-clause-leaf : goal.returns-then-pass-clause-leaf
returns-then-pass-clause-leaf g c =
    let source = g.S.Splitter.items c.args.marked.now.split in
    let V = g.P.Test.verdict c.args.marked.now.inner in
    let verdicts = map V source in
    let marks = marks_of abort_flag verdicts in
    let i = c.loop-input.invariant in
    let few = rw c.in-Met.is at c.in_ok-few.ensures.few in
    let on = search_few V source _ _ c.loop-input.fault g.S.Item.Shown.shown c.loop-input.at _ c.in_ok-few.few.at _ _ _ (rw i.lo_is at i.on) few in
    let mark = mark_at V source _ refl abort_flag c.in_ok-few.few.at _ _ few.scan.span ∙ (ap passes (sym few.ended.0) ∙ (sym c.is_pass-pass.ensures ∙ c.if-pass.true)) in
    let size : length source ≡ length marks = marks_length abort_flag V source _ refl in
    let n_is : c.count-flag.result ≡ length marks = i.flag_is ∙ size in
    let within : g.S.Splitter.lo c.args.input + length (g.S.Splitter.items c.args.input) ≤ c.count-flag.result = omega (arith, c.requires.part.within, i.flag_is) in
    let made : c.in_ok-few.few.at + 1 ≡ g.S.Splitter.lo c.args.input + (c.seek_few.new.probe.made - c.args.probe.now.made) = omega (arith, few.tests, c.in_ok-few.ensures.made, i.made, i.lo_is, few.scan.from, i.on.scan.from) in
    let before : c.in_ok-few.few.at < g.S.Splitter.lo c.args.input + length (g.S.Splitter.items c.args.input) = omega (arith, on.scan.ends) in
    rw c.found-then-pass.ensures (abort_finds marks _ _ _ _ _ n_is within _ c.in_ok-few.few.at i.unset made on.scan.from before on.scan.clear mark c.abort.ensures.set)

pub returns-then-pass-clause-good : goal.returns-then-pass-clause-good
returns-then-pass-clause-good g c =
    let source = g.S.Splitter.items c.args.marked.now.split in
    let V = g.P.Test.verdict c.args.marked.now.inner in
    let few = rw c.in-Met.is at c.in_ok-few.ensures.few in
    let mark = mark_at V source _ refl abort_flag c.in_ok-few.few.at _ _ few.scan.span ∙ (ap passes (sym few.ended.0) ∙ (sym c.is_pass-pass.ensures ∙ c.if-pass.true)) in
    rw c.found-then-pass.ensures mark

pub returns-in-Out-clause-leaf : goal.returns-in-Out-clause-leaf
returns-in-Out-clause-leaf g c =
    let source = g.S.Splitter.items c.args.marked.now.split in
    let V = g.P.Test.verdict c.args.marked.now.inner in
    let verdicts = map V source in
    let marks = marks_of abort_flag verdicts in
    let i = c.loop-input.invariant in
    let few = rw c.in-Out.is at c.in_ok-few.ensures.few in
    let on = search_few V source _ _ c.loop-input.fault g.S.Item.Shown.shown c.loop-input.at _ c.in_ok-few.few.at _ _ _ (rw i.lo_is at i.on) few in
    let size : length source ≡ length marks = marks_length abort_flag V source _ refl in
    let n_is : c.count-flag.result ≡ length marks = i.flag_is ∙ size in
    let within : g.S.Splitter.lo c.args.input + length (g.S.Splitter.items c.args.input) ≤ c.count-flag.result = omega (arith, c.requires.part.within, i.flag_is) in
    let e : c.in_ok-few.few.at ≡ g.S.Splitter.lo c.args.input + length (g.S.Splitter.items c.args.input) = omega (arith, on.scan.ends, ap length few.ended) in
    abort_ends marks _ _ _ _ _ n_is within _ i.unset (omega (arith, e, few.tests, c.in_ok-few.ensures.made, i.made, i.lo_is, few.scan.from, i.on.scan.from)) (subst (λ k. Clear marks (g.S.Splitter.lo c.args.input) k) e on.scan.clear) (λ a f. going_fresh _ _ i.seat f)

pub returns-in-Out-clause-good : goal.returns-in-Out-clause-good
returns-in-Out-clause-good g c =
    let source = g.S.Splitter.items c.args.marked.now.split in
    let V = g.P.Test.verdict c.args.marked.now.inner in
    let verdicts = map V source in
    let marks = marks_of abort_flag verdicts in
    let i = c.loop-input.invariant in
    let few = rw c.in-Out.is at c.in_ok-few.ensures.few in
    let on = search_few V source _ _ c.loop-input.fault g.S.Item.Shown.shown c.loop-input.at _ c.in_ok-few.few.at _ _ _ (rw i.lo_is at i.on) few in
    let e : c.in_ok-few.few.at ≡ g.S.Splitter.lo c.args.input + length (g.S.Splitter.items c.args.input) = omega (arith, on.scan.ends, ap length few.ended) in
    rw (c.not_found.ensures, ← e) (not_found_is verdicts marks _ _ _ on.first on.scan.clear)

pub returns-then-ended-clause-leaf : goal.returns-then-ended-clause-leaf
returns-then-ended-clause-leaf g c =
    let source = g.S.Splitter.items c.args.marked.now.split in
    let V = g.P.Test.verdict c.args.marked.now.inner in
    let i = c.loop-input.invariant in
    let step :
    IsSearching source (map V source) c.span-lo.result.0 (g.S.Splitter.lo c.args.input + length (g.S.Splitter.items c.args.input)) c.match-few.at (g.S.Splitter.items c.seek_few.new.input) c.match-few.fault ×
    (c.seek_few.new.probe.made + c.span-lo.result.0 ≡ c.args.probe.now.made + c.match-few.at) =
    elim c.match-few.branch [
      | in-All w ↦
          let few = rw w.in-All.is at c.in_ok-few.ensures.few in
          rw (w.at-is, w.fault-is) (
            search_few V source _ _ c.loop-input.fault g.S.Item.Shown.shown c.loop-input.at _ c.in_ok-few.few.at _ _ _ i.on few,
            omega (arith, few.tests, c.in_ok-few.ensures.made, i.made, few.scan.from, i.on.scan.from),
          )
      | in-Met+else-pass w ↦
          let few = rw w.in-Met.is at c.in_ok-few.ensures.few in
          let on = search_few V source _ _ c.loop-input.fault g.S.Item.Shown.shown c.loop-input.at _ c.in_ok-few.few.at _ _ _ i.on few in
          rw (w.at-is, w.fault-is, w.note_fault-fault.ensures) (
            search_met V source _ _ c.loop-input.fault c.in_ok-few.few.at _ _ w.in-Met.verdict few.ended.0 (sym w.is_pass-pass.ensures ∙ w.if-pass.false) on,
            omega (arith, few.tests, c.in_ok-few.ensures.made, i.made, few.scan.from, i.on.scan.from),
          )
    ] in
    let marks = marks_of abort_flag (map V source) in
    let size : length source ≡ length marks = marks_length abort_flag V source _ refl in
    let n_is : c.count-flag.result ≡ length marks = i.flag_is ∙ size in
    let within : g.S.Splitter.lo c.args.input + length (g.S.Splitter.items c.args.input) ≤ c.count-flag.result = omega (arith, c.requires.part.within, i.flag_is) in
    let scan = rw i.lo_is at step.0.scan in
    let made : c.match-few.at ≡ g.S.Splitter.lo c.args.input + (c.seek_few.new.probe.made - c.args.probe.now.made) = omega (arith, step.1, i.lo_is, scan.from) in
    let count : c.match-few.at - c.span-lo.result.0 ≡ c.seek_few.new.probe.made - c.args.probe.now.made = omega (arith, step.1, step.0.scan.from) in
    let d = c.is_decided-ended.ensures.set c.if-ended.true in
    let m = subst (λ w. IsMarked w c.in_ok-i-2.i) c.requires.marks c.in_ok-i-2.ensures.marked in
    rw c.found-then-ended.ensures
    (abort_breaks marks _ _ _ _ _ n_is within _ c.in_ok-i-2.i i.unset (subst IsReadAgain count d.0) (omega (arith, made, scan.ends)) (subst (λ k. Clear marks (g.S.Splitter.lo c.args.input) k) made scan.clear) m (c.decider.ensures.later.abort d.1.set)
    (λ a f. d.1.by_another (i.seat.alone ∙ a) (i.seat.abort f.abort)))

pub loop-input-preserved-else-ended : goal.loop-input-preserved-else-ended
loop-input-preserved-else-ended g c =
    let source = g.S.Splitter.items c.args.marked.now.split in
    let V = g.P.Test.verdict c.args.marked.now.inner in
    let i = c.loop-input.invariant in
    let step :
    IsSearching source (map V source) c.span-lo.result.0 (g.S.Splitter.lo c.args.input + length (g.S.Splitter.items c.args.input)) c.match-few.at (g.S.Splitter.items c.seek_few.new.input) c.match-few.fault ×
    (c.seek_few.new.probe.made + c.span-lo.result.0 ≡ c.args.probe.now.made + c.match-few.at) =
    elim c.match-few.branch [
      | in-All w ↦
          let few = rw w.in-All.is at c.in_ok-few.ensures.few in
          rw (w.at-is, w.fault-is) (
            search_few V source _ _ c.loop-input.fault g.S.Item.Shown.shown c.loop-input.at _ c.in_ok-few.few.at _ _ _ i.on few,
            omega (arith, few.tests, c.in_ok-few.ensures.made, i.made, few.scan.from, i.on.scan.from),
          )
      | in-Met+else-pass w ↦
          let few = rw w.in-Met.is at c.in_ok-few.ensures.few in
          let on = search_few V source _ _ c.loop-input.fault g.S.Item.Shown.shown c.loop-input.at _ c.in_ok-few.few.at _ _ _ i.on few in
          rw (w.at-is, w.fault-is, w.note_fault-fault.ensures) (
            search_met V source _ _ c.loop-input.fault c.in_ok-few.few.at _ _ w.in-Met.verdict few.ended.0 (sym w.is_pass-pass.ensures ∙ w.if-pass.false) on,
            omega (arith, few.tests, c.in_ok-few.ensures.made, i.made, few.scan.from, i.on.scan.from),
          )
    ] in
    record {
      on = step.0;
      lo_is = i.lo_is;
      flag_is = i.flag_is;
      inner = c.in_ok-few.ensures.test ∙ i.inner;
      made = step.1;
      unset = i.unset;
      seat = going_join _ _ _ i.seat (c.is_decided-ended.ensures.unset c.if-ended.false);
    }

pub loop-input-preserved : goal.loop-input-preserved
loop-input-preserved g c =
    let source = g.S.Splitter.items c.args.marked.now.split in
    let V = g.P.Test.verdict c.args.marked.now.inner in
    let i = c.loop-input.invariant in
    let step :
    IsSearching source (map V source) c.span-lo.result.0 (g.S.Splitter.lo c.args.input + length (g.S.Splitter.items c.args.input)) c.match-few.at (g.S.Splitter.items c.seek_few.new.input) c.match-few.fault ×
    (c.seek_few.new.probe.made + c.span-lo.result.0 ≡ c.args.probe.now.made + c.match-few.at) =
    elim c.match-few.branch [
      | in-All w ↦
          let few = rw w.in-All.is at c.in_ok-few.ensures.few in
          rw (w.at-is, w.fault-is) (
            search_few V source _ _ c.loop-input.fault g.S.Item.Shown.shown c.loop-input.at _ c.in_ok-few.few.at _ _ _ i.on few,
            omega (arith, few.tests, c.in_ok-few.ensures.made, i.made, few.scan.from, i.on.scan.from),
          )
      | in-Met+else-pass w ↦
          let few = rw w.in-Met.is at c.in_ok-few.ensures.few in
          let on = search_few V source _ _ c.loop-input.fault g.S.Item.Shown.shown c.loop-input.at _ c.in_ok-few.few.at _ _ _ i.on few in
          rw (w.at-is, w.fault-is, w.note_fault-fault.ensures) (
            search_met V source _ _ c.loop-input.fault c.in_ok-few.few.at _ _ w.in-Met.verdict few.ended.0 (sym w.is_pass-pass.ensures ∙ w.if-pass.false) on,
            omega (arith, few.tests, c.in_ok-few.ensures.made, i.made, few.scan.from, i.on.scan.from),
          )
    ] in
    record {
      on = step.0;
      lo_is = i.lo_is;
      flag_is = i.flag_is;
      inner = c.in_ok-few.ensures.test ∙ i.inner;
      made = step.1;
      unset = i.unset;
      seat = going_join _ _ _ i.seat (c.is_decided-ended.ensures.unset c.if-ended.false);
    }
