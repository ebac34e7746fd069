use Rattle.std.proofs.Common.{◌≡◌, ◌+◌, ◌≤◌, ◌<◌, length, map}
use Rattle.par_signal.specs.Values.{IsLow}
use Rattle.par_task.specs.Marking.{low_flag, marks_of}
use Rattle.par_task.specs.Parts.{between}
use Rattle.par_jobs.specs.Steps.{IsLowRead}
use Rattle.par_jobs.specs.Few.{IsScanning}
use Rattle.par_jobs.proofs.low.pass_items.Given as goal

abbrev pub invariant-loop-few : goal.invariant-loop-few
invariant-loop-few g l = record {
  scan : IsScanning (g.S.Splitter.items l.marked.split) (marks_of low_flag (map (g.P.Test.verdict l.marked.inner) (g.S.Splitter.items l.marked.split))) l.lo (g.S.Splitter.lo l.fn.input + length (g.S.Splitter.items l.fn.input)) l.at (g.S.Splitter.items l.input);
  lo_is : l.lo ≡ g.S.Splitter.lo l.fn.input;
  inner : l.probe.inner ≡ l.fn.probe.inner;
  made : l.probe.made + l.lo ≡ l.fn.probe.made + l.at;
  flag_is : IsLow (marks_of low_flag (map (g.P.Test.verdict l.marked.inner) (g.S.Splitter.items l.marked.split))) l.flag;
  some : l.lo < l.flag;
  flag_seen : l.flag ≤ l.fn.seat.low;
  seat : IsLowRead l.fn.seat l.seat;
  kept : g.B.Builder.built l.builder (between (g.S.Splitter.items l.marked.split) l.lo l.at) (g.B.Built.Shown.shown l.kept);
}

abbrev pub decreases-loop-few : goal.decreases-loop-few
decreases-loop-few g l = length (g.S.Splitter.items l.input)
