use Rattle.std.proofs.Common.{◌≡◌, ℕ, ◌+◌, ◌<◌, ◌≤◌, ◌^◌, length, length-append, map, sum_by, List, [], ◌∷◌, ◌++◌, refl, ap, sym, ◌∙◌, subst, arith, rules, true}
use Rattle.std.proofs.lemmas.List.Sums.{sum_by_push}
use Rattle.par_signal.specs.Seen.{Seen}
use Rattle.par_task.specs.Marking.{marks_of}
use Rattle.par_task.specs.Audits.{threshold_of}
use Rattle.par_task.specs.declared.audit.Leaf.{Leaf}
use Rattle.par_task.proofs.Running.{IsGoing, IsRunWhole, span_first, going_first, span_next, going_next, answer, few_tails, going_count, merge_ready, made_room, next_good, next_within, fresh_open, marks_length}
use Rattle.par_task.proofs.run.run_alone.Goals as goal

pub loop-node-init : goal.loop-node-init
loop-node-init g c =
    let items = g.J.Split.Splitter.items in
    let lo = g.J.Split.Splitter.lo in
    let fresh = fresh_open c.in_ok-signals.seat c.in_ok-signals.signals (g.M.Marks.marks c.args.marks.now) c.in_ok-signals.ensures.signals c.in_ok-signals.ensures.seat in
    let e : c.note.new.leaves.items ≡ c.in_ok-part.first ∷ [] = c.in_ok-note.ensures ∙ ap (λ (v : List Leaf). v ++ c.in_ok-part.first ∷ []) c.new-leaves.ensures.items in
    record {
      going = rw e (going_first items lo _ _ _ _ (g.J.Job.source c.args.job.now) c.args.source 1 _ _ _ _ _ _ _ _ _ _ c.chain-node.ensures c.requires.source.0 c.requires.source.1 c.in_ok-part.ensures.leaf c.run_leaf.ensures.seat fresh.0 fresh.1);
      test = c.run_leaf.ensures.test ∙ c.new-probe.ensures.inner;
      seat = refl;
      made = rw e (omega (arith, c.in_ok-part.ensures.leaf.made, c.new-probe.ensures.made));
    }

pub run_leaf-requires-in-Some-clause-test : goal.run_leaf-requires-in-Some-clause-test
run_leaf-requires-in-Some-clause-test g c = rw c.loop-node.invariant.test c.requires.test

pub run_leaf-requires-in-Some-clause-seat : goal.run_leaf-requires-in-Some-clause-seat
run_leaf-requires-in-Some-clause-seat g c = c.loop-node.invariant.seat ∙ (c.run_leaf.ensures.seat.of ∙ ap (λ (s : Seen). s.of) c.in_ok-signals.ensures.seat)

pub run_leaf-requires-in-Some-clause-part : goal.run_leaf-requires-in-Some-clause-part
run_leaf-requires-in-Some-clause-part g c = span_next (rw c.in-Some.ensures at c.loop-node.invariant.going)

pub run_leaf-requires-in-Some-clause-room : goal.run_leaf-requires-in-Some-clause-room
run_leaf-requires-in-Some-clause-room g c =
    let r = made_room (rw c.in-Some.ensures at c.loop-node.invariant.going) c.loop-node.probe.made c.loop-node.invariant.made c.requires.small in
    omega (arith, r)

pub merge-requires : goal.merge-requires
merge-requires g c = merge_ready (rw c.in-Some.ensures at c.loop-node.invariant.going) c.in_ok-next.ensures.leaf

pub overflow_add-turn : goal.overflow_add-turn
overflow_add-turn g c =
    let a = going_count c.loop-node.invariant.going in
    let b = few_tails c.chain-node.ensures in
    omega (arith, a, b)

pub loop-node-preserved : goal.loop-node-preserved
loop-node-preserved g c =
    let gg = rw c.in-Some.ensures at c.loop-node.invariant.going in
    let r = c.in_ok-next.ensures.leaf in
    let good = g.met.J.Job.joins c.args.job.now 0 gg.hi (gg.hi + length (g.J.Split.Splitter.items c.in-Some.tail)) _ _ _ (omega arith) (omega arith) (next_within gg) gg.done.good_is (next_good gg r) c.in_ok-part-2.ensures in
    let total = sum_by_push (λ (x : Leaf). x.tested) c.loop-node.leaves.items c.in_ok-next.leaf in
    record {
      going = rw c.in_ok-note-2.ensures (going_next gg r c.run_leaf-in-Some.ensures.seat c.in_ok-part-2.ensures good);
      test = c.run_leaf-in-Some.ensures.test ∙ c.loop-node.invariant.test;
      seat = c.run_leaf-in-Some.ensures.seat.of ∙ c.loop-node.invariant.seat;
      made = rw (c.in_ok-note-2.ensures, total) (omega (arith, r.made, c.loop-node.invariant.made));
    }

pub returns-clause-good : goal.returns-clause-good
returns-clause-good g c =
    let size = marks_length g.J.Job.kind (g.J.Pred.Test.verdict c.args.inner.now) (g.J.Job.source c.args.job.now) _ c.requires.test in
    rw c.of.ensures
    (answer g.J.Split.Splitter.items g.J.Split.Splitter.lo _ _ _ _ (g.J.Job.source c.args.job.now) c.args.source c.threshold.result _ _ _ _ _ _ _ size c.chain-node.ensures c.requires.source.1 (rw c.in_default.ensures.0 at c.loop-node.invariant.going)).good_is

pub returns-clause-comes : goal.returns-clause-comes
returns-clause-comes g c =
    let size = marks_length g.J.Job.kind (g.J.Pred.Test.verdict c.args.inner.now) (g.J.Job.source c.args.job.now) _ c.requires.test in
    rw c.of.ensures
    (answer g.J.Split.Splitter.items g.J.Split.Splitter.lo _ _ _ _ (g.J.Job.source c.args.job.now) c.args.source c.threshold.result _ _ _ _ _ _ _ size c.chain-node.ensures c.requires.source.1 (rw c.in_default.ensures.0 at c.loop-node.invariant.going)).comes

pub returns-clause-audit : goal.returns-clause-audit
returns-clause-audit g c =
    let size = marks_length g.J.Job.kind (g.J.Pred.Test.verdict c.args.inner.now) (g.J.Job.source c.args.job.now) _ c.requires.test in
    let t : c.threshold.result ≡ threshold_of (length (g.J.Job.source c.args.job.now)) c.args.level =
    c.threshold.ensures ∙ ap (λ v. threshold_of v c.args.level) (c.remaining-n.ensures ∙ ap length c.requires.source.1) in
    rw (c.of.ensures, ← t)
    (answer g.J.Split.Splitter.items g.J.Split.Splitter.lo _ _ _ _ (g.J.Job.source c.args.job.now) c.args.source c.threshold.result _ _ _ _ _ _ _ size c.chain-node.ensures c.requires.source.1 (rw c.in_default.ensures.0 at c.loop-node.invariant.going)).audit

pub returns-clause-chain : goal.returns-clause-chain
returns-clause-chain g c =
    let size = marks_length g.J.Job.kind (g.J.Pred.Test.verdict c.args.inner.now) (g.J.Job.source c.args.job.now) _ c.requires.test in
    rw c.of.ensures
    (answer g.J.Split.Splitter.items g.J.Split.Splitter.lo _ _ _ _ (g.J.Job.source c.args.job.now) c.args.source c.threshold.result _ _ _ _ _ _ _ size c.chain-node.ensures c.requires.source.1 (rw c.in_default.ensures.0 at c.loop-node.invariant.going)).chain

pub returns-clause-tested : goal.returns-clause-tested
returns-clause-tested g c =
    let size = marks_length g.J.Job.kind (g.J.Pred.Test.verdict c.args.inner.now) (g.J.Job.source c.args.job.now) _ c.requires.test in
    rw c.of.ensures
    (answer g.J.Split.Splitter.items g.J.Split.Splitter.lo _ _ _ _ (g.J.Job.source c.args.job.now) c.args.source c.threshold.result _ _ _ _ _ _ _ size c.chain-node.ensures c.requires.source.1 (rw c.in_default.ensures.0 at c.loop-node.invariant.going)).tested
