use Rattle.par_lists.proofs.ScanLemmas.{length-scan, slice_get-scan}
use Rattle.par_lists.proofs.laws.scan_laws.Goals as goal

pub returns-clause-places : goal.returns-clause-places
returns-clause-places g c = length-scan

pub returns-clause-folds : goal.returns-clause-folds
returns-clause-folds g c = slice_get-scan
