use Rattle.std.proofs.Common.{◌≡◌, ◌+◌, List, ◌++◌, length, map}
use Rattle.par_task.specs.Marking.{low_flag, marks_of}
use Rattle.par_task.specs.Parts.{between}
use Rattle.par_jobs.specs.Few.{IsScanning}
use Rattle.par_jobs.proofs.few.pass_few.Given as goal

abbrev pub invariant-loop : goal.invariant-loop
invariant-loop g l = record {
  scan : IsScanning (g.S.Splitter.items l.marked.split) (marks_of low_flag (map (g.P.Test.verdict l.marked.inner) (g.S.Splitter.items l.marked.split))) l.from (l.from + length (g.S.Splitter.items l.fn.input)) l.at (g.S.Splitter.items l.input);
  count : l.at ≡ l.from + l.counter;
  inner : l.probe.inner ≡ l.fn.probe.inner;
  made : l.probe.made + l.from ≡ l.fn.probe.made + l.at;
  kept : (xs : List _) → g.B.Builder.built l.builder xs (g.B.Built.Shown.shown l.fn.built) → g.B.Builder.built l.builder (xs ++ between (g.S.Splitter.items l.marked.split) l.from l.at) (g.B.Built.Shown.shown l.kept);
}
