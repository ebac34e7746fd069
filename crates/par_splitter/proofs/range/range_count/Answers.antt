use Rattle.std.proofs.Common.{rules}
use Rattle.std.specs.Int.{w64}
use Rattle.std.proofs.lemmas.Int.{to_z-of_z}
use Rattle.par_splitter.proofs.range.range_count.Goals as goal
use Rattle.par_splitter.proofs.Ranges.{counted_in_bits, none_counted_in_bits}

pub returns-then-is_before : goal.returns-then-is_before
returns-then-is_before c =
    counted_in_bits _ _ _ _ _ _ _ _ _ (to_z-of_z w64 _ c.ranges.a) (to_z-of_z w64 _ c.ranges.b) (to_z-of_z w64 _ c.ranges.c) c.requires (search rules)
    c.div_ceil.ensures c.abs_diff.ensures c.unsigned_abs.ensures.value

pub returns-else-is_before : goal.returns-else-is_before
returns-else-is_before c =
    none_counted_in_bits _ _ _ _ _ _ (to_z-of_z w64 _ c.ranges.a) (to_z-of_z w64 _ c.ranges.b) (to_z-of_z w64 _ c.ranges.c) (search rules)
