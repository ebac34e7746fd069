use Rattle.std.proofs.Common.{rules, ◌∙◌, sym, ap}
use Rattle.std.specs.Prelude.{slice_get}
use Rattle.par_trie.proofs.Few.{none_of_three, second_has}
use Rattle.par_trie.proofs.leaves.likely_in.Goals.{then-second-rest, else-second-rest}
use Rattle.par_trie.proofs.leaves.likely_in.Goals as goal

pub returns-else-first-rest-clause-likely : goal.returns-else-first-rest-clause-likely
returns-else-first-rest-clause-likely c = λ leaf is other. elim c.if-second-rest.branch [
  | then-second-rest w ↦ absurd (other (second_has c.args.leaves.now c.args.rest c.if-second-rest.later leaf _ w.later-is w.if-second-rest.true is))
  | else-second-rest w ↦ none_of_three c.args.leaves.now c.args.rest leaf _ (search rules) c.if-first-rest.false w.if-second-rest.false (sym (ap (slice_get c.args.leaves.now) w.later-is) ∙ is) other
]
