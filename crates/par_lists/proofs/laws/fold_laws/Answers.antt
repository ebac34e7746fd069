use Rattle.par_lists.proofs.FoldLemmas.{fold-two_lists}
use Rattle.par_lists.proofs.laws.fold_laws.Goals as goal

pub returns : goal.returns
returns g c = record { in_parts = fold-two_lists }
