use Rattle.std.proofs.Common.{◌∙◌, ap, refl, ◌||◌}
use Rattle.par_index.specs.Places.{is_among}
use Rattle.par_index.proofs.Places.{is_among-append, is_among-places_of}
use Rattle.par_trie.proofs.level.RootIndex.push.Goals as goal

pub returns-clause-ok : goal.returns-clause-ok
returns-clause-ok g c = record {
  counted = refl;
  kept = λ q a. ap (is_among a) (c.in_ok-push.ensures.ok q)
      ∙ (is_among-append a (g.N.Node.places c.args.self.now.top q) _
      ∙ ap (λ b. is_among a (g.N.Node.places c.args.self.now.top q) || b) (is_among-places_of (record { rest = c.args.hash; at = c.args.self.now.count }) q a));
}
