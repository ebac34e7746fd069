use Rattle.par_trie.proofs.Digits.{no_index}
use Rattle.par_trie.proofs.branch.BranchNode.pair.Goals as goal

pub invariant_of-branch : goal.invariant_of-branch
invariant_of-branch g c = record { indexed = rw c.new.ensures.items no_index }
