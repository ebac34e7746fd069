use Rattle.std.proofs.Common.{◌≡◌, drop}
use Rattle.par_index.specs.Places.{first_such}
use Rattle.par_trie.specs.Places.{places_among}
use Rattle.par_trie.proofs.leaves.find_among.Given as goal

-- what is found in what is left is what is found in all
abbrev pub invariant-loop-leaf : goal.invariant-loop-leaf
invariant-loop-leaf g l =
    first_such (g.W.Wanted.is_wanted l.wanted) (places_among (drop l.leaf-index l.leaves) l.rest) ≡ first_such (g.W.Wanted.is_wanted l.wanted) (places_among l.leaves l.rest)
