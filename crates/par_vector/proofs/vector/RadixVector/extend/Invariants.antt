use Rattle.std.proofs.Common.{◌≡◌, ◌++◌}
use Rattle.par_vector.proofs.vector.RadixVector.extend.Given as goal

-- what was pushed and what is left are the whole
abbrev pub invariant-loop-item : goal.invariant-loop-item
invariant-loop-item g l = l.self ++ l.item-iterator.rest.items ≡ l.fn.self ++ l.fn.chunk.items
