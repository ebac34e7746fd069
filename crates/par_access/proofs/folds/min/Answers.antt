use Rattle.std.specs.Int.{int_min}
use Rattle.par_access.proofs.Reducing.{reduced_itself}
use Rattle.par_access.proofs.folds.min.Goals as goal

pub returns-clause-answer : goal.returns-clause-answer
returns-clause-answer g c = reduced_itself int_min (g.F.Mapper.mapped c.args.of.now) (g.S.Splitter.items c.args.source) c.fold.result c.fold.ensures.answer
