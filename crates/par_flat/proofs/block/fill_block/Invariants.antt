use Rattle.std.proofs.Common.{◌≡◌, ◌++◌, []}
use Rattle.std.specs.List.{flat_map}
use Rattle.std.specs.Map.{keys_of}
use Rattle.par_flat.specs.Keys.{insert_keys}
use Rattle.par_flat.proofs.block.fill_block.Given as goal

-- the keys of the chunks so far were inserted
abbrev pub invariant-loop-chunk : goal.invariant-loop-chunk
invariant-loop-chunk g l = record {
  inserted : keys_of l.set ≡ insert_keys g.K.PartialEq.eq [] (flat_map (λ chunk. chunk.items) l.yielded);
  whole : l.yielded ++ l.chunk-iterator ≡ l.fn.keys;
}
