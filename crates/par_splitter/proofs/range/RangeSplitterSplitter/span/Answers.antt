use Rattle.std.proofs.Common.{arith}
use Rattle.par_splitter.proofs.range.RangeSplitterSplitter.span.Goals as goal
use Rattle.par_splitter.proofs.Stepped.{length-stepped}

pub returns-clause-hi : goal.returns-clause-hi
returns-clause-hi c = rw length-stepped (omega (arith, c.args.self.now.ordered))
