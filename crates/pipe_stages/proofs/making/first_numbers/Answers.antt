use Rattle.std.proofs.Common.{rules, ◌≡◌, ◌<◌, ◌-◌, min, ap, sym, ◌∙◌, arith}
use Rattle.std.specs.Int.{w64}
use Rattle.std.proofs.lemmas.Int.{to_z-of_z}
use Rattle.par_splitter.specs.Range.{IsRange, IsRangeCount, IsReached, stepped}
use Rattle.pipe_stages.proofs.Ranging.{cut_range, numbers_are, unbits}
use Rattle.pipe_stages.proofs.making.first_numbers.Goals as goal

pub new-requires-clause-count : goal.new-requires-clause-count
new-requires-clause-count c =
    let a = to_z-of_z w64 _ c.ranges.a in
    let b = to_z-of_z w64 _ c.ranges.b in
    let step = to_z-of_z w64 _ c.ranges.c in
    let end = to_z-of_z w64 c.steps_on.result (search rules) in
    let more : c.args.n < c.range_count.result = omega (arith, c.if-range_count-from.true, c.from.ensures) in
    let count = unbits (λ x y z. IsRangeCount x y z c.range_count.result) _ _ _ _ _ _ a b step c.range_count.ensures in
    let reach = unbits (λ x y z. IsReached x z c.args.n c.steps_on.result) _ _ _ _ _ _ a b step c.steps_on.ensures in
    let first = cut_range c.args.a c.args.b c.args.c c.range_count.result c.args.n c.steps_on.result c.ranges.a c.ranges.b c.requires.step count more reach in
    (c.args.n, unbits (λ x y z. IsRangeCount x y z c.args.n) _ _ _ _ _ _ (sym a) (sym end) (sym step) first, c.requires.small)

pub returns-then-range_count-from : goal.returns-then-range_count-from
returns-then-range_count-from c =
    let a = to_z-of_z w64 _ c.ranges.a in
    let b = to_z-of_z w64 _ c.ranges.b in
    let step = to_z-of_z w64 _ c.ranges.c in
    let end = to_z-of_z w64 c.steps_on.result (search rules) in
    let more : c.args.n < c.range_count.result = omega (arith, c.if-range_count-from.true, c.from.ensures) in
    let items = stepped c.new.result.first c.new.result.step (c.new.result.hi - c.new.result.lo) in
    let count = unbits (λ x y z. IsRangeCount x y z c.range_count.result) _ _ _ _ _ _ a b step c.range_count.ensures in
    let reach = unbits (λ x y z. IsReached x z c.args.n c.steps_on.result) _ _ _ _ _ _ a b step c.steps_on.ensures in
    let first = cut_range c.args.a c.args.b c.args.c c.range_count.result c.args.n c.steps_on.result c.ranges.a c.ranges.b c.requires.step count more reach in
    let range = unbits (λ x y z. IsRange x y z items) _ _ _ _ _ _ a end step c.new.ensures.list in
    let all : c.args.n ≡ min c.range_count.result c.args.n = omega (arith, more) in
    (c.range_count.result, count, numbers_are c.args.a c.steps_on.result c.args.c c.args.n items first range ∙ ap (stepped c.args.a c.args.c) all)

pub returns-else-range_count-from : goal.returns-else-range_count-from
returns-else-range_count-from c =
    let a = to_z-of_z w64 _ c.ranges.a in
    let b = to_z-of_z w64 _ c.ranges.b in
    let step = to_z-of_z w64 _ c.ranges.c in
    let items = stepped c.new-else-range_count-from.result.first c.new-else-range_count-from.result.step (c.new-else-range_count-from.result.hi - c.new-else-range_count-from.result.lo) in
    let count = unbits (λ x y z. IsRangeCount x y z c.range_count.result) _ _ _ _ _ _ a b step c.range_count.ensures in
    let range = unbits (λ x y z. IsRange x y z items) _ _ _ _ _ _ a b step c.new-else-range_count-from.ensures.list in
    let all : c.range_count.result ≡ min c.range_count.result c.args.n = omega (arith, c.if-range_count-from.false, c.from.ensures) in
    (c.range_count.result, count, numbers_are c.args.a c.args.b c.args.c c.range_count.result items count range ∙ ap (stepped c.args.a c.args.c) all)
