use Rattle.std.proofs.Common.{◌≡◌, ◌+◌, ◌-◌, ◌≤◌, ◌<◌, length, map, refl, ap, sym, ◌∙◌, subst, arith}
use Rattle.std.proofs.lemmas.Bool.{false≢true}
use Rattle.par_laws.specs.Marks.{IsMarked, stop}
use Rattle.par_signal.specs.Values.{IsLow}
use Rattle.par_task.specs.Marking.{low_flag, marks_of, halts}
use Rattle.par_task.proofs.Stops.{stop_least}
use Rattle.par_jobs.proofs.Scanning.{scan_begins, scan_join, mark_at, low_finds}
use Rattle.par_jobs.specs.Merges.{between_join}
use Rattle.par_jobs.proofs.Fronts.{between_none, low_read_none, low_read_join}
use Rattle.par_jobs.proofs.low.pass_items.Goals as goal

pub loop-few-init : goal.loop-few-init
loop-few-init g c =
    let source = g.S.Splitter.items c.args.marked.now.split in
    let marks = marks_of low_flag (map (g.P.Test.verdict c.args.marked.now.inner) source) in
    let begun : c.span-lo.result.0 ≡ g.S.Splitter.lo c.args.input.now = c.span-lo.ensures.lo in
    let flag_is : IsLow marks c.args.flag = subst (λ m. IsLow m c.args.flag) c.requires.given.marks c.requires.flag.0 in
    rw begun (record {
      scan = scan_begins source marks (g.S.Splitter.lo c.args.input.now) _ c.requires.given.part;
      lo_is = refl;
      inner = refl;
      made = refl;
      flag_is = flag_is;
      some = c.requires.flag.1;
      flag_seen = c.requires.flag.2;
      seat = low_read_none _;
      kept = subst (λ w. g.B.Builder.built c.args.builder.now w (g.B.Built.Shown.shown c.in_ok-kept.kept)) (between_none source (g.S.Splitter.lo c.args.input.now)) c.in_ok-kept.ensures;
    })

pub tell_mark-requires-clause-marked : goal.tell_mark-requires-clause-marked
tell_mark-requires-clause-marked g c =
    let source = g.S.Splitter.items c.args.marked.now.split in
    let few = rw c.in-Met.is at c.in_ok-few.ensures.few in
    let mark = mark_at (g.P.Test.verdict c.args.marked.now.inner) source _ refl low_flag c.in_ok-few.few.at _ _ few.scan.span ∙ (ap halts (sym few.ended.0) ∙ few.ended.1) in
    subst (λ m. IsMarked m c.in_ok-few.few.at) (sym c.requires.given.marks) mark

pub returns-in-Met-clause-leaf : goal.returns-in-Met-clause-leaf
returns-in-Met-clause-leaf g c =
    let source = g.S.Splitter.items c.args.marked.now.split in
    let marks = marks_of low_flag (map (g.P.Test.verdict c.args.marked.now.inner) source) in
    let i = c.loop-few.invariant in
    let few = rw c.in-Met.is at c.in_ok-few.ensures.few in
    let begun = rw i.lo_is at i.scan in
    let scan = scan_join source marks _ _ _ _ _ _ begun few.scan in
    let mark = mark_at (g.P.Test.verdict c.args.marked.now.inner) source _ refl low_flag c.in_ok-few.few.at _ _ few.scan.span ∙ (ap halts (sym few.ended.0) ∙ few.ended.1) in
    let before : c.in_ok-few.few.at < g.S.Splitter.lo c.args.input.now + length (g.S.Splitter.items c.args.input.now) = omega (arith, scan.ends) in
    let made : c.in_ok-few.few.at + 1 ≡ g.S.Splitter.lo c.args.input.now + (c.pass_few.new.probe.made - c.args.probe.now.made) = omega (arith, few.tests, c.in_ok-few.ensures.made, i.made, i.lo_is, few.scan.from, begun.from) in
    low_finds _ _ _ _ _ _ i.flag_is i.flag_seen _ c.in_ok-few.few.at (rw i.lo_is at i.some) made scan.from before scan.clear mark c.tell_mark.ensures.told

pub returns-in-Met-clause-passed : goal.returns-in-Met-clause-passed
returns-in-Met-clause-passed g c =
    let source = g.S.Splitter.items c.args.marked.now.split in
    let marks = marks_of low_flag (map (g.P.Test.verdict c.args.marked.now.inner) source) in
    let i = c.loop-few.invariant in
    let few = rw c.in-Met.is at c.in_ok-few.ensures.few in
    let begun = rw i.lo_is at i.scan in
    let scan = scan_join source marks _ _ _ _ _ _ begun few.scan in
    let mark = mark_at (g.P.Test.verdict c.args.marked.now.inner) source _ refl low_flag c.in_ok-few.few.at _ _ few.scan.span ∙ (ap halts (sym few.ended.0) ∙ few.ended.1) in
    let before : c.in_ok-few.few.at < g.S.Splitter.lo c.args.input.now + length (g.S.Splitter.items c.args.input.now) = omega (arith, scan.ends) in
    rw c.leaf_did.ensures (
      refl,
      record {
        from = scan.from;
        within = omega (arith, before);
        clear = scan.clear;
        kept_is = subst (λ w. g.B.Builder.built c.args.builder.now w (g.B.Built.Shown.shown c.in_ok-few.few.kept)) (between_join source _ c.loop-few.at c.in_ok-few.few.at begun.from few.scan.from) (c.in_ok-few.ensures.kept _ (rw i.lo_is at i.kept));
        all = λ t. absurd (false≢true t);
        cut = λ _. stop_least marks c.in_ok-few.few.at mark;
      },
    )

pub returns-in-Out-clause-passed : goal.returns-in-Out-clause-passed
returns-in-Out-clause-passed g c =
    let source = g.S.Splitter.items c.args.marked.now.split in
    let marks = marks_of low_flag (map (g.P.Test.verdict c.args.marked.now.inner) source) in
    let i = c.loop-few.invariant in
    let few = rw c.in-Out.is at c.in_ok-few.ensures.few in
    let begun = rw i.lo_is at i.scan in
    let scan = scan_join source marks _ _ _ _ _ _ begun few.scan in
    let e : c.in_ok-few.few.at ≡ g.S.Splitter.lo c.args.input.now + length (g.S.Splitter.items c.args.input.now) = omega (arith, scan.ends, ap length few.ended) in
    let ends : c.span-lo.result.1 ≡ c.in_ok-few.few.at = c.span-lo.ensures.hi ∙ sym e in
    rw c.leaf_did-in-Out.ensures (rw ends (
      refl,
      record {
        from = scan.from;
        within = omega (arith, e);
        clear = scan.clear;
        kept_is = subst (λ w. g.B.Builder.built c.args.builder.now w (g.B.Built.Shown.shown c.in_ok-few.few.kept)) (between_join source _ c.loop-few.at c.in_ok-few.few.at begun.from few.scan.from) (c.in_ok-few.ensures.kept _ (rw i.lo_is at i.kept));
        all = λ _. e;
        cut = λ u. absurd (false≢true (sym u));
      },
    ))

pub returns-then-past-clause-passed : goal.returns-then-past-clause-passed
returns-then-past-clause-passed g c =
    let source = g.S.Splitter.items c.args.marked.now.split in
    let marks = marks_of low_flag (map (g.P.Test.verdict c.args.marked.now.inner) source) in
    let i = c.loop-few.invariant in
    let few = rw c.in-All.is at c.in_ok-few.ensures.few in
    let begun = rw i.lo_is at i.scan in
    let scan = scan_join source marks _ _ _ _ _ _ begun few.scan in
    let p = c.is_past-past.ensures.past c.if-past.true in
    let stops : stop marks ≤ c.in_ok-few.few.at = omega (arith, p.1.past, ap stop c.requires.given.marks) in
    let left : c.in_ok-few.few.at < g.S.Splitter.lo c.args.input.now + length (g.S.Splitter.items c.args.input.now) = omega (arith, p.1.more, c.span-lo.ensures.hi) in
    rw c.leaf_did-then-past.ensures (
      refl,
      record {
        from = scan.from;
        within = omega (arith, left);
        clear = scan.clear;
        kept_is = subst (λ w. g.B.Builder.built c.args.builder.now w (g.B.Built.Shown.shown c.in_ok-few.few.kept)) (between_join source _ c.loop-few.at c.in_ok-few.few.at begun.from few.scan.from) (c.in_ok-few.ensures.kept _ (rw i.lo_is at i.kept));
        all = λ t. absurd (false≢true t);
        cut = λ _. stops;
      },
    )

pub loop-few-preserved : goal.loop-few-preserved
loop-few-preserved g c =
    let source = g.S.Splitter.items c.args.marked.now.split in
    let marks = marks_of low_flag (map (g.P.Test.verdict c.args.marked.now.inner) source) in
    let i = c.loop-few.invariant in
    let few = rw c.in-All.is at c.in_ok-few.ensures.few in
    let begun = i.scan in
    let scan = scan_join source marks _ _ _ _ _ _ begun few.scan in
    record {
      scan = scan;
      lo_is = i.lo_is;
      inner = c.in_ok-few.ensures.test ∙ i.inner;
      made = omega (arith, few.tests, c.in_ok-few.ensures.made, i.made, few.scan.from, begun.from);
      flag_is = i.flag_is;
      some = i.some;
      flag_seen = i.flag_seen;
      seat = low_read_join _ _ _ i.seat c.is_past-past.ensures.read;
      kept = subst (λ w. g.B.Builder.built c.args.builder.now w (g.B.Built.Shown.shown c.in_ok-few.few.kept)) (between_join source _ c.loop-few.at c.in_ok-few.few.at begun.from few.scan.from) (c.in_ok-few.ensures.kept _ (i.kept));
    }
