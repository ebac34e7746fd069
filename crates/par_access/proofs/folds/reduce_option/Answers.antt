use Rattle.std.specs.Option.{option_map}
use Rattle.par_access.proofs.Reducing.{reduced_ok}
use Rattle.par_access.proofs.folds.reduce_option.Goals as goal

pub returns-clause-answer : goal.returns-clause-answer
returns-clause-answer g c = reduced_ok (g.M.Monoid.joined c.args.how.now) (g.F.Mapper.mapped c.args.of.now) (option_map g.M.T.Shown.shown) (g.S.Splitter.items c.args.source) c.fold.result c.fold.ensures.answer
