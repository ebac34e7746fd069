use Rattle.std.proofs.Common.{rules}
use Rattle.par_trie.proofs.Few.{places_among-set}
use Rattle.par_trie.proofs.leaves.Few.push.Goals as goal

pub returns-clause-room : goal.returns-clause-room
returns-clause-room c = λ _ q. places_among-set c.args.self.now.leaves c.args.leaf c.args.self.now.count q (search rules)
