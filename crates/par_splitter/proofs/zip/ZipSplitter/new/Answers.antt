use Rattle.std.proofs.Common.{rules}
use Rattle.par_splitter.proofs.zip.ZipSplitter.new.Goals as goal
use Rattle.par_splitter.proofs.Pairs.{zip_trimmed}

pub returns-clause-list : goal.returns-clause-list
returns-clause-list g c =
    let a = c.cut_at-a.ensures in
    let b = c.cut_at-b.ensures in
    zip_trimmed _ _ _ _ _ _ c.min-n.result a.parts.joined b.parts.joined
    (search (rules, c.min-n.ensures, c.remaining.ensures, c.remaining-2.ensures)) a.count b.count
