use Rattle.std.proofs.Common.{get_or-take}
use Rattle.std.proofs.lemmas.List.Sums.{prefix_len_passes}
use Rattle.std.proofs.lemmas.List.Folds.{length-prefix_len}
use Rattle.par_lists.proofs.CutLemmas.{first_after_fails, take-drop}
use Rattle.par_lists.proofs.laws.cut_laws.Goals as goal

pub returns-clause-passes : goal.returns-clause-passes
returns-clause-passes g c = λ p xs k d within. let inside = rw (length-prefix_len p xs) at within in rw (get_or-take) (prefix_len_passes p xs k d inside)

pub returns-clause-stops : goal.returns-clause-stops
returns-clause-stops g c = first_after_fails

pub returns-clause-slice : goal.returns-clause-slice
returns-clause-slice g c = λ xs a b. take-drop a b xs
