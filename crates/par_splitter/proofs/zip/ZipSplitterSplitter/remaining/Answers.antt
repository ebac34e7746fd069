use Rattle.std.proofs.Common.{◌∙◌, sym}
use Rattle.par_splitter.proofs.zip.ZipSplitterSplitter.remaining.Goals as goal
use Rattle.par_splitter.proofs.Pairs.{length-even_zip}

pub returns : goal.returns
returns g c = c.remaining.ensures ∙ sym (length-even_zip _ _ c.args.self.now.even)
