use Rattle.par_trie.proofs.Digits.{places_among-push}
use Rattle.par_trie.proofs.chain.ChainNode.push.Goals as goal

pub returns-clause-ok : goal.returns-clause-ok
returns-clause-ok c = λ q. rw c.in_ok-push.ensures.items (places_among-push _ c.args.leaf q)
