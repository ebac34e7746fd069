use Rattle.std.proofs.Common.{arith, refl, ◌∙◌}
use Rattle.par_splitter.specs.Parts.{IsCutAt, AreParts}
use Rattle.par_vector.proofs.Runs.{cut_count, cut_joined}
use Rattle.par_vector.proofs.splitter.VectorSplitterPrecise.cut_at.Goals as goal

pub returns : goal.returns
returns g c =
    let s = c.args.self in
    let is = rw c.remaining.ensures at c.min.ensures in
    let count = cut_count s.vector.now s.at s.end c.min.result c.args.k s.ordered s.within is in
    record {
      parts = record { joined = cut_joined s.vector.now s.at s.end c.min.result c.args.k s.ordered s.within is; lo_left = refl; lo_right = omega (arith, count) };
      count = count ∙ is;
    }
