use Rattle.std.proofs.Common.{◌≡◌, ◌+◌, length, map, [], ◌++◌, refl, ap, sym, ◌∙◌, subst, arith}
use Rattle.std.specs.List.{filter}
use Rattle.par_task.specs.Marking.{no_flag, passes}
use Rattle.par_task.specs.Parts.{between}
use Rattle.par_task.proofs.Running.{marks_length}
use Rattle.par_jobs.specs.Steps.{fails}
use Rattle.par_jobs.specs.Merges.{kept_if}
use Rattle.par_jobs.proofs.Faults.{IsFaultSoFar, fault_begins, fault_step, same_verdict, filter_more, few_filtered, sifted_is}
use Rattle.par_jobs.proofs.Fronts.{between_none}
use Rattle.par_jobs.proofs.Scanning.{scan_begins, scan_next, verdict_at}
use Rattle.par_jobs.proofs.sift.SiftJobJob.leaf.Goals as goal

pub loop-item-init : goal.loop-item-init
loop-item-init g c =
    let source = g.S.Splitter.items c.args.self.now.marked.split in
    let V = g.P.Test.verdict c.args.self.now.marked.inner in
    let begun : c.span-lo.result.0 ≡ g.S.Splitter.lo c.args.input = c.span-lo.ensures.lo in
    let none = between_none source (g.S.Splitter.lo c.args.input) in
    rw begun (record {
      scan = scan_begins source [] (g.S.Splitter.lo c.args.input) _ c.requires.part;
      place = refl;
      lo_is = refl;
      inner = refl;
      made = refl;
      passing = subst (λ w. g.A.Builder.built c.args.self.now.passing.now (filter (λ x. passes (V x)) w) (g.A.Built.Shown.shown c.in_ok-passing.passing)) none c.in_ok-passing.ensures;
      failing = subst (λ w. g.B.Builder.built c.args.self.now.failing.now (filter (λ x. fails (V x)) w) (g.B.Built.Shown.shown c.in_ok-failing.failing)) none c.in_ok-failing.ensures;
      fault = fault_begins (map V source) (g.S.Splitter.lo c.args.input);
    })

pub add_if-requires : goal.add_if-requires
add_if-requires g c =
    let source = g.S.Splitter.items c.args.self.now.marked.split in
    let V = g.P.Test.verdict c.args.self.now.marked.inner in
    let i = c.loop-item.invariant in
    let scan = rw c.in-Some.ensures.first at i.scan in
    (_, few_filtered (λ x. passes (V x)) source _ _ _ _ scan.span c.args.self.now.small, i.passing)

pub add_if-requires-in-Some : goal.add_if-requires-in-Some
add_if-requires-in-Some g c =
    let source = g.S.Splitter.items c.args.self.now.marked.split in
    let V = g.P.Test.verdict c.args.self.now.marked.inner in
    let i = c.loop-item.invariant in
    let scan = rw c.in-Some.ensures.first at i.scan in
    (_, few_filtered (λ x. fails (V x)) source _ _ _ _ scan.span c.args.self.now.small, i.failing)

pub loop-item-preserved : goal.loop-item-preserved
loop-item-preserved g c =
    let source = g.S.Splitter.items c.args.self.now.marked.split in
    let V = g.P.Test.verdict c.args.self.now.marked.inner in
    let i = c.loop-item.invariant in
    let scan = rw c.in-Some.ensures.first at i.scan in
    let v = c.test-verdict.ensures.answer ∙ ap (λ p. g.P.Test.verdict p (g.S.Item.Shown.shown c.in-Some.item)) i.inner in
    let same : c.test-verdict.result ≡ V (g.S.Item.Shown.shown c.in-Some.item) = v ∙ same_verdict V (g.P.Test.verdict c.args.probe.now.inner) source c.requires.test c.loop-item.at _ _ scan.span in
    let at_is = verdict_at (g.P.Test.verdict c.args.probe.now.inner) source _ c.requires.test c.loop-item.at _ _ scan.span ∙ sym v in
    record {
      scan = scan_next source _ _ _ c.loop-item.at _ _ scan refl;
      place = c.in-Some.ensures.lo_next ∙ ap (λ k. k + 1) i.place;
      lo_is = i.lo_is;
      inner = c.test-verdict.ensures.inner ∙ i.inner;
      made = omega (arith, c.test-verdict.ensures.made, i.made);
      passing = subst (λ w. g.A.Builder.built c.args.self.now.passing.now w (g.A.Built.Shown.shown c.in_ok-passing-2.passing))
          (ap (λ b. filter (λ x. passes (V x)) (between source c.span-lo.result.0 c.loop-item.at) ++ kept_if b (g.S.Item.Shown.shown c.in-Some.item)) (c.is_pass.ensures ∙ ap passes same) ∙ filter_more (λ x. passes (V x)) source _ c.loop-item.at _ _ scan.from scan.span)
          (c.in_ok-passing-2.ensures _ i.passing);
      failing = subst (λ w. g.B.Builder.built c.args.self.now.failing.now w (g.B.Built.Shown.shown c.in_ok-failing-2.failing))
          (ap (λ b. filter (λ x. fails (V x)) (between source c.span-lo.result.0 c.loop-item.at) ++ kept_if b (g.S.Item.Shown.shown c.in-Some.item)) (c.is_fail.ensures ∙ ap fails same) ∙ filter_more (λ x. fails (V x)) source _ c.loop-item.at _ _ scan.from scan.span)
          (c.in_ok-failing-2.ensures _ i.failing);
      fault = rw c.note_fault-fault.ensures (fault_step _ _ c.loop-item.at _ c.test-verdict.result scan.from at_is i.fault);
    }

pub returns-clause-leaf : goal.returns-clause-leaf
returns-clause-leaf g c =
    let source = g.S.Splitter.items c.args.self.now.marked.split in
    let V = g.P.Test.verdict c.args.self.now.marked.inner in
    let i = c.loop-item.invariant in
    let scan = rw i.lo_is at i.scan in
    let e : c.loop-item.at ≡ g.S.Splitter.lo c.args.input + length (g.S.Splitter.items c.args.input) = omega (arith, scan.ends, ap length c.in_default.ensures.none) in
    record {
      lawful = (c.count.ensures ∙ marks_length no_flag V source _ refl, omega (arith, e, i.made, i.lo_is, scan.from));
      heeds = tt;
      found = tt;
      full = λ _ _. tt;
    }

pub returns-clause-good : goal.returns-clause-good
returns-clause-good g c =
    let source = g.S.Splitter.items c.args.self.now.marked.split in
    let V = g.P.Test.verdict c.args.self.now.marked.inner in
    let i = c.loop-item.invariant in
    let scan = rw i.lo_is at i.scan in
    let e : c.loop-item.at ≡ g.S.Splitter.lo c.args.input + length (g.S.Splitter.items c.args.input) = omega (arith, scan.ends, ap length c.in_default.ensures.none) in
    let hi = g.S.Splitter.lo c.args.input + length (g.S.Splitter.items c.args.input) in
    rw c.outcome.ensures (sifted_is g.A.Built.Shown.shown g.B.Built.Shown.shown V _ _ source (g.S.Splitter.lo c.args.input) hi c.loop-item.fault _ _
    (subst (λ k. IsFaultSoFar (map V source) (g.S.Splitter.lo c.args.input) k c.loop-item.fault) e (rw i.lo_is at i.fault))
    (subst (λ k. g.A.Builder.built c.args.self.now.passing.now (filter (λ x. passes (V x)) (between source (g.S.Splitter.lo c.args.input) k)) (g.A.Built.Shown.shown c.loop-item.passing)) e (rw i.lo_is at i.passing))
    (subst (λ k. g.B.Builder.built c.args.self.now.failing.now (filter (λ x. fails (V x)) (between source (g.S.Splitter.lo c.args.input) k)) (g.B.Built.Shown.shown c.loop-item.failing)) e (rw i.lo_is at i.failing)))
