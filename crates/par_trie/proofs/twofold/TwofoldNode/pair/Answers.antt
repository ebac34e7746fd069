use Rattle.std.proofs.Common.{rules, ◌≡◌, ◌∙◌, ◌++◌, ap, refl, replicate, length, []}
use Rattle.par_index.specs.Places.{places_of}
use Rattle.par_trie.specs.Rows.{places_in}
use Rattle.par_trie.proofs.Digits.{no_index}
use Rattle.std.proofs.lemmas.List.{length-replicate}
use Rattle.par_trie.proofs.Rows.{places_in-free}
use Rattle.par_trie.proofs.twofold.TwofoldNode.pair.Goals as goal

pub invariant_of-node : goal.invariant_of-node
invariant_of-node g c =
    let free : c.in_ok-vec.field-0.items ≡ replicate 32 c.none.result = search rules in
    record {
      twofold = record {
        indexed = rw c.new.ensures.items no_index;
        whole = rw c.new.ensures.items refl;
        upper = ap length free ∙ length-replicate 32 c.none.result;
      };
    }

pub returns : goal.returns
returns g c =
    let free : c.in_ok-vec.field-0.items ≡ replicate 32 c.none.result = search rules in
    λ q. c.in_ok-push-2.ensures.ok q
    ∙ ap (λ ps. ps ++ places_of c.args.second q)
    (c.in_ok-push.ensures.ok q
    ∙ ap (λ ps. ps ++ places_of c.args.first q)
    (ap (λ fs. places_in g.N.Node.places (replicate 32 0) fs c.new.result.items q) free ∙ places_in-free g.N.Node.places c.none.result c.new.result.items q c.none.ensures))
