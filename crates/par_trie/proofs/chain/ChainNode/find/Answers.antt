use Rattle.std.proofs.Common.{◌≡◌, ◌∙◌, ap}
use Rattle.par_index.specs.Places.{first_such}
use Rattle.par_index.proofs.Places.{first_such-found, first_such-absent}
use Rattle.par_trie.specs.Places.{places_among}
use Rattle.par_trie.proofs.chain.ChainNode.find.Goals as goal

pub returns-clause-found : goal.returns-clause-found
returns-clause-found g c = first_such-found (g.W.Wanted.is_wanted c.args.wanted.now) (places_among _ c.args.rest) c.find_among.result c.find_among.ensures

pub returns-clause-absent : goal.returns-clause-absent
returns-clause-absent g c =
    let w = g.W.Wanted.is_wanted c.args.wanted.now in
    let is : c.find_among.result ≡ first_such w (places_among c.args.self.now.leaves.items c.args.rest) = c.find_among.ensures ∙ ap (λ leaves. first_such w (places_among leaves c.args.rest)) c.deref.ensures.value in
    first_such-absent w (places_among c.args.self.now.leaves.items c.args.rest) c.find_among.result is
