use Rattle.std.proofs.Common.{◌≡◌, ◌++◌}
use Rattle.std.specs.List.{IsDistinct}
use Rattle.std.specs.Map.{keys_of}
use Rattle.par_index.proofs.entries.Entries.append.Given as goal

-- what was taken of the other map stands at the end
abbrev pub invariant-loop-key : goal.invariant-loop-key
invariant-loop-key g l = record {
  added : l.self ≡ l.fn.self ++ l.yielded;
  whole : l.yielded ++ l.key-iterator.rest.items ≡ l.fn.other;
  distinct : IsDistinct g.K.PartialEq.eq (keys_of l.self);
}
