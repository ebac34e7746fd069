use Rattle.std.proofs.Common.{FitsSigned, rules, w64}
use Rattle.std.proofs.lemmas.Int.{wrapping_add_is}
use Rattle.par_laws.proofs.stock.numbers.SumGatherI64.add.Goals as goal

pub returns-clause-gathered : goal.returns-clause-gathered
returns-clause-gathered c =
    let fits : FitsSigned w64 c.args.item.now = search rules in
    wrapping_add_is w64 c.args.acc c.args.item.now c.ranges.acc fits
