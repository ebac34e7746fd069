use Rattle.std.proofs.Common.{rules, get_or}
use Rattle.std.proofs.lemmas.Option.{slice_get-get_or}
use Rattle.par_index.specs.declared.index.Leaf.{Leaf}
use Rattle.par_index.proofs.Places.{first_such-found}
use Rattle.par_trie.specs.Places.{places_among}
use Rattle.par_trie.proofs.Few.{absent_first, absent_likely}
use Rattle.par_trie.proofs.leaves.Few.find.Goals as goal

pub returns-then-likely-rest-clause-absent : goal.returns-then-likely-rest-clause-absent
returns-then-likely-rest-clause-absent g c =
    let leaves = c.args.self.now.leaves in
    let none : Leaf = record { rest = 0; at = 0 } in
    absent_likely (g.W.Wanted.is_wanted c.args.wanted.now) leaves c.args.self.now.count c.args.rest c.likely_in.result (get_or leaves c.likely_in.result none) c.likely_in.ensures.likely (slice_get-get_or leaves c.likely_in.result none (search rules)) (search rules)

pub returns-clause-found : goal.returns-clause-found
returns-clause-found g c = first_such-found (g.W.Wanted.is_wanted c.args.wanted.now) (places_among c.args.self.now.leaves c.args.rest) c.find_among.result c.find_among.ensures

pub returns-clause-absent : goal.returns-clause-absent
returns-clause-absent g c = absent_first (g.W.Wanted.is_wanted c.args.wanted.now) c.args.self.now.leaves c.args.self.now.count c.args.rest c.find_among.result c.find_among.ensures
