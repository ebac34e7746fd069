use Rattle.std.proofs.Common.{◌++◌, map, refl, ap, sym, ◌∙◌, subst, arith}
use Rattle.std.proofs.lemmas.List.{append-nil, append_assoc, length-append}
use Rattle.par_task.specs.Marking.{low_flag, marks_of, halts}
use Rattle.par_task.specs.Parts.{between}
use Rattle.par_jobs.proofs.Faults.{same_verdict}
use Rattle.par_jobs.proofs.Fronts.{between_none, between_more, length-between}
use Rattle.par_jobs.proofs.Scanning.{scan_begins, scan_next, mark_at}
use Rattle.par_jobs.proofs.few.pass_few.Goals as goal

pub loop-init : goal.loop-init
loop-init g c =
    let source = g.S.Splitter.items c.args.marked.now.split in
    let marks = marks_of low_flag (map (g.P.Test.verdict c.args.marked.now.inner) source) in
    record {
      scan = scan_begins source marks c.args.from _ c.requires.part;
      count = omega arith;
      inner = refl;
      made = refl;
      kept = λ xs b. subst (λ w. g.B.Builder.built c.args.builder.now w (g.B.Built.Shown.shown c.args.built)) (sym (append-nil xs) ∙ ap (λ v. xs ++ v) (between_none source c.args.from)) b;
    }

pub returns-then-is_halt-clause-few : goal.returns-then-is_halt-clause-few
returns-then-is_halt-clause-few g c =
    let source = g.S.Splitter.items c.args.marked.now.split in
    let i = c.loop.invariant in
    let scan = rw c.in-Some.ensures.first at i.scan in
    let v = c.test-verdict.ensures.answer ∙ (ap (λ p. g.P.Test.verdict p (g.S.Item.Shown.shown c.in-Some.item)) i.inner ∙ same_verdict (g.P.Test.verdict c.args.marked.now.inner) (g.P.Test.verdict c.args.probe.now.inner) source c.requires.test c.loop.at _ _ scan.span) in
    record {
      scan = scan;
      ended = (v, sym c.is_halt.ensures ∙ c.if-is_halt.true);
      tests = omega (arith, i.made, c.test-verdict.ensures.made, scan.from);
    }

pub add-requires : goal.add-requires
add-requires g c =
    let source = g.S.Splitter.items c.args.marked.now.split in
    let i = c.loop.invariant in
    let scan = rw c.in-Some.ensures.first at i.scan in
    let xs = c.requires.built.0 in
    let passed = between source c.args.from c.loop.at in
    (xs ++ passed, omega (arith, length-append xs passed, length-between source c.args.from c.loop.at, c.requires.built.1, scan.from, scan.span.within, c.requires.small), i.kept xs c.requires.built.2)

pub loop-preserved : goal.loop-preserved
loop-preserved g c =
    let source = g.S.Splitter.items c.args.marked.now.split in
    let i = c.loop.invariant in
    let scan = rw c.in-Some.ensures.first at i.scan in
    let v = c.test-verdict.ensures.answer ∙ (ap (λ p. g.P.Test.verdict p (g.S.Item.Shown.shown c.in-Some.item)) i.inner ∙ same_verdict (g.P.Test.verdict c.args.marked.now.inner) (g.P.Test.verdict c.args.probe.now.inner) source c.requires.test c.loop.at _ _ scan.span) in
    let mark = mark_at (g.P.Test.verdict c.args.marked.now.inner) source _ refl low_flag c.loop.at _ _ scan.span ∙ (ap halts (sym v) ∙ (sym c.is_halt.ensures ∙ c.if-is_halt.false)) in
    let passed = between source c.args.from c.loop.at in
    record {
      scan = scan_next source _ _ _ c.loop.at _ _ scan mark;
      count = omega (arith, i.count);
      inner = c.test-verdict.ensures.inner ∙ i.inner;
      made = omega (arith, c.test-verdict.ensures.made, i.made);
      kept = λ xs b. subst (λ w. g.B.Builder.built c.args.builder.now w (g.B.Built.Shown.shown c.in_ok-kept.kept)) (append_assoc xs passed _ ∙ ap (λ w. xs ++ w) (between_more source _ c.loop.at _ _ scan.from scan.span)) (c.in_ok-kept.ensures (xs ++ passed) (i.kept xs b));
    }
