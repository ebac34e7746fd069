use Rattle.std.proofs.Common.{◌≡◌, ◌++◌}
use Rattle.std.specs.Map.{keys_of}
use Rattle.par_flat.specs.Keys.{insert_keys}
use Rattle.par_flat.proofs.keys.insert_all.Given as goal

-- the keys so far were inserted
abbrev pub invariant-loop-key : goal.invariant-loop-key
invariant-loop-key g l = record {
  inserted : keys_of l.set ≡ insert_keys g.K.PartialEq.eq (keys_of l.fn.set) l.yielded;
  whole : l.yielded ++ l.key-iterator.rest.items ≡ l.fn.keys.items;
}
