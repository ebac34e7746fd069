use Rattle.par_index.proofs.Keeping.{kept-none}
use Rattle.par_index.proofs.entries.Entries.new.Goals as goal

pub invariant_of-result : goal.invariant_of-result
invariant_of-result g c = rw c.new.ensures.items (kept-none g.K.PartialEq.eq (λ k. g.K.HashKey.hash (g.K.Shown.shown k)) (g.I.Index.has c.args.index) (g.I.Index.count c.args.index) c.requires)
