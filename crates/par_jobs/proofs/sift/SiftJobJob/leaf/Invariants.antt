use Rattle.std.proofs.Common.{◌≡◌, ◌+◌, length, map, []}
use Rattle.std.specs.List.{filter}
use Rattle.par_task.specs.Marking.{passes}
use Rattle.par_task.specs.Parts.{between}
use Rattle.par_jobs.specs.Steps.{fails}
use Rattle.par_jobs.proofs.Faults.{IsFaultSoFar}
use Rattle.par_jobs.specs.Few.{IsScanning}
use Rattle.par_jobs.proofs.sift.SiftJobJob.leaf.Given as goal

abbrev pub invariant-loop-item : goal.invariant-loop-item
invariant-loop-item g l = record {
  scan : IsScanning (g.S.Splitter.items l.self.marked.split) [] l.lo (g.S.Splitter.lo l.fn.input + length (g.S.Splitter.items l.fn.input)) l.at (g.S.Splitter.items l.input);
  place : g.S.Splitter.lo l.input ≡ l.at;
  lo_is : l.lo ≡ g.S.Splitter.lo l.fn.input;
  inner : l.probe.inner ≡ l.fn.probe.inner;
  made : l.probe.made + l.lo ≡ l.fn.probe.made + l.at;
  passing : g.A.Builder.built l.self.passing.now (filter (λ x. passes (g.P.Test.verdict l.self.marked.inner x)) (between (g.S.Splitter.items l.self.marked.split) l.lo l.at)) (g.A.Built.Shown.shown l.passing);
  failing : g.B.Builder.built l.self.failing.now (filter (λ x. fails (g.P.Test.verdict l.self.marked.inner x)) (between (g.S.Splitter.items l.self.marked.split) l.lo l.at)) (g.B.Built.Shown.shown l.failing);
  fault : IsFaultSoFar (map (g.P.Test.verdict l.self.marked.inner) (g.S.Splitter.items l.self.marked.split)) l.lo l.at l.fault;
}

abbrev pub decreases-loop-item : goal.decreases-loop-item
decreases-loop-item g l = length (g.S.Splitter.items l.input)
