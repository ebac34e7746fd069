use Rattle.std.proofs.Common.{sym}
use Rattle.par_splitter.proofs.range.RangeSplitterSplitter.remaining.Goals as goal
use Rattle.par_splitter.proofs.Stepped.{length-stepped}

pub returns : goal.returns
returns c = sym (length-stepped _ _ _)
