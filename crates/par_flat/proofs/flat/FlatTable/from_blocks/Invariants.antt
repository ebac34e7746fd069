use Rattle.std.proofs.Common.{◌≡◌, ◌++◌}
use Rattle.std.specs.List.{IsDistinct}
use Rattle.std.specs.Map.{keys_of}
use Rattle.par_index.specs.Entries.{joined}
use Rattle.par_flat.proofs.flat.FlatTable.from_blocks.Given as goal

-- the keys of the blocks so far
abbrev pub invariant-loop-block : goal.invariant-loop-block
invariant-loop-block g l = record {
  joined_so_far : keys_of l.union ≡ joined l.yielded;
  whole : l.yielded ++ l.block-iterator.rest.items ≡ l.fn.blocks.items;
  distinct : IsDistinct g.K.PartialEq.eq (keys_of l.union);
}
