use Rattle.std.proofs.Common.{◌≡◌, ◌+◌, length, map}
use Rattle.par_signal.specs.Values.{IsSet}
use Rattle.par_jobs.specs.Steps.{IsGoingOn}
use Rattle.par_jobs.proofs.Searching.{IsSearching}
use Rattle.par_jobs.proofs.search.seek.Given as goal

abbrev pub invariant-loop-input : goal.invariant-loop-input
invariant-loop-input g l = record {
  on : IsSearching (g.S.Splitter.items l.marked.split) (map (g.P.Test.verdict l.marked.inner) (g.S.Splitter.items l.marked.split)) l.lo (g.S.Splitter.lo l.fn.input + length (g.S.Splitter.items l.fn.input)) l.at (g.S.Splitter.items l.input) l.fault;
  lo_is : l.lo ≡ g.S.Splitter.lo l.fn.input;
  flag_is : l.flag ≡ length (g.S.Splitter.items l.marked.split);
  inner : l.probe.inner ≡ l.fn.probe.inner;
  made : l.probe.made + l.lo ≡ l.fn.probe.made + l.at;
  unset : ¬ IsSet l.fn.seat.abort;
  seat : IsGoingOn l.fn.seat l.seat;
}

abbrev pub decreases-loop-input : goal.decreases-loop-input
decreases-loop-input g l = length (g.S.Splitter.items l.input)
