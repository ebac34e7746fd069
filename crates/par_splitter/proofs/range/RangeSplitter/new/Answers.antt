use Rattle.std.proofs.Common.{◌≡◌, ◌-◌, arith}
use Rattle.std.specs.Int.{w64}
use Rattle.std.proofs.lemmas.Int.{to_z-of_z}
use Rattle.par_splitter.proofs.range.RangeSplitter.new.Goals as goal
use Rattle.par_splitter.proofs.Ranges.{fit_between, count_in_bits}
use Rattle.par_splitter.proofs.Stepped.{is_range}

pub invariant_of-result : goal.invariant_of-result
invariant_of-result c =
    let a = to_z-of_z w64 _ c.ranges.a in
    let b = to_z-of_z w64 _ c.ranges.b in
    let step = to_z-of_z w64 _ c.ranges.c in
    let count = count_in_bits _ _ _ _ _ _ _ a b step c.range_count.ensures in
    record { ordered = omega arith; numbers = λ i h. rw (a, step) (fit_between _ _ _ _ c.ranges.a c.ranges.b c.requires.step count i (omega arith)) }

pub returns-clause-list : goal.returns-clause-list
returns-clause-list c =
    let a = to_z-of_z w64 _ c.ranges.a in
    let b = to_z-of_z w64 _ c.ranges.b in
    let step = to_z-of_z w64 _ c.ranges.c in
    let count = count_in_bits _ _ _ _ _ _ _ a b step c.range_count.ensures in
    let whole : c.range_count.result - 0 ≡ c.range_count.result = omega arith in
    rw (a, step, whole) (is_range _ _ _ _ count)
