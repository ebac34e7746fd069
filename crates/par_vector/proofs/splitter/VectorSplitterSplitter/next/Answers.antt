use Rattle.std.proofs.Common.{arith, refl, ◌<◌}
use Rattle.par_splitter.specs.Parts.{TookFirst}
use Rattle.par_vector.proofs.Runs.{run_next, took}
use Rattle.par_vector.proofs.splitter.VectorSplitterSplitter.next.Goals as goal

pub invariant_of-self : goal.invariant_of-self
invariant_of-self g c =
    let s = c.args.self.now in
    record {
      ordered = omega (arith, s.ordered, c.if-self.false);
      within = s.within;
      held = (run_next s.vector.now s.at c.in_ok-first.first.now c.in_ok-first.rest.now c.here.result.now c.in_ok-first.ensures.cases.0 c.here.ensures).0;
      small = s.small;
    }

pub returns : goal.returns
returns g c =
    let s = c.args.self.now in
    let before : s.at < s.end = omega (arith, s.ordered, c.if-self.false) in
    record { first = took s.vector.now s.at s.end c.in_ok-first.first.now c.in_ok-first.rest.now c.here.result.now c.in_ok-first.ensures.cases.0 c.here.ensures before; lo_next = refl }
