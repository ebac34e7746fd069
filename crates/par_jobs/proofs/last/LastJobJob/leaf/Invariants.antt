use Rattle.std.proofs.Common.{◌≡◌, ◌+◌, length, map, []}
use Rattle.par_task.specs.Marking.{high_flag, marks_of}
use Rattle.par_jobs.proofs.Lasts.{IsBest}
use Rattle.par_jobs.specs.Few.{IsScanning}
use Rattle.par_jobs.proofs.last.LastJobJob.leaf.Given as goal

abbrev pub invariant-loop-item : goal.invariant-loop-item
invariant-loop-item g l = record {
  scan : IsScanning (g.S.Splitter.items l.self.marked.split) [] l.lo (g.S.Splitter.lo l.fn.input + length (g.S.Splitter.items l.fn.input)) l.at (g.S.Splitter.items l.input);
  place : g.S.Splitter.lo l.input ≡ l.at;
  lo_is : l.lo ≡ g.S.Splitter.lo l.fn.input;
  inner : l.probe.inner ≡ l.fn.probe.inner;
  made : l.probe.made + l.lo ≡ l.fn.probe.made + l.at;
  best : IsBest (marks_of high_flag (map (g.P.Test.verdict l.self.marked.inner) (g.S.Splitter.items l.self.marked.split))) l.lo l.at l.last;
}

abbrev pub decreases-loop-item : goal.decreases-loop-item
decreases-loop-item g l = length (g.S.Splitter.items l.input)
