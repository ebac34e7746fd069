use Rattle.std.proofs.Common.{◌+◌, ◌∙◌, sym, ap}
use Rattle.par_splitter.proofs.zip.ZipSplitterSplitter.span.Goals as goal
use Rattle.par_splitter.proofs.Pairs.{length-even_zip}

pub returns-clause-hi : goal.returns-clause-hi
returns-clause-hi g c =
    let s = c.args.self.now in
    c.span.ensures.hi ∙ ap (λ n. g.A.Splitter.lo s.a + n) (sym (length-even_zip _ _ s.even))
