use Rattle.par_splitter.proofs.zip.ZipSplitterPrecise.cut_at.Goals as goal
use Rattle.par_splitter.proofs.Pairs.{pairs_joined, pairs_place, pairs_count}

pub returns : goal.returns
returns g c =
    let s = c.args.self in
    let a = c.cut_at-left.ensures in
    let b = c.cut_at-left_b.ensures in
    record {
      parts = record {
        joined = pairs_joined _ _ _ _ _ _ _ _ _ _ _ s.even a b;
        lo_left = a.parts.lo_left;
        lo_right = pairs_place _ _ _ _ _ _ _ _ _ _ _ s.even a b;
      };
      count = pairs_count _ _ _ _ _ _ _ _ _ _ _ s.even a b;
    }
