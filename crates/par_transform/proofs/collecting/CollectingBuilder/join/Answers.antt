use Rattle.std.proofs.Common.{arith}
use Rattle.std.proofs.lemmas.List.{length-map}
use Rattle.std.specs.Coded.{le_prop}
use mathlib.Core.Logic.{∥∥₁_elim}
use Rattle.par_transform.proofs.collecting.CollectingBuilder.join.Goals as goal

pub combine-requires : goal.combine-requires
combine-requires g c =
    let f = g.F.Mapper.mapped c.args.self.now.of.now in
    ∥∥₁_elim c.requires le_prop
    (λ r. omega (arith, r.2, g.met.C.Combiner.counts _ _ r.3, g.met.C.Combiner.counts _ _ r.4, length-map r.0 f, length-map r.1 f))
