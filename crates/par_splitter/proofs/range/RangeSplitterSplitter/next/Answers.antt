use Rattle.std.proofs.Common.{◌≡◌, ◌+◌, ◌-◌, rules, arith}
use Rattle.std.specs.Int.{w64}
use Rattle.std.proofs.lemmas.Int.{to_z-of_z}
use Rattle.par_splitter.specs.Range.{IsReached}
use Rattle.par_splitter.proofs.range.RangeSplitterSplitter.next.Goals as goal
use Rattle.par_splitter.proofs.Stepped.{fit_after, stepped_first, reached_in_bits}

pub invariant_of-self : goal.invariant_of-self
invariant_of-self c =
    let s = c.args.self.now in
    let first = to_z-of_z w64 s.first (search rules) in
    let step = to_z-of_z w64 s.step (search rules) in
    let after = to_z-of_z w64 c.steps_on-self.result (search rules) in
    let left : 1 + (s.hi - (s.lo + 1)) ≡ s.hi - s.lo = omega (arith, s.ordered, c.if-self.false) in
    let reach : IsReached s.first s.step 1 c.steps_on-self.result = reached_in_bits _ _ _ _ _ 1 first step c.steps_on-self.ensures in
    record { ordered = omega (arith, s.ordered, c.if-self.false); numbers = λ i h. rw after (fit_after _ _ _ 1 _ _ s.numbers left reach i h) }

pub returns : goal.returns
returns c =
    let s = c.args.self.now in
    let first = to_z-of_z w64 s.first (search rules) in
    let step = to_z-of_z w64 s.step (search rules) in
    let after = to_z-of_z w64 c.steps_on-self.result (search rules) in
    let left : 1 + (s.hi - (s.lo + 1)) ≡ s.hi - s.lo = omega (arith, s.ordered, c.if-self.false) in
    let reach : IsReached s.first s.step 1 c.steps_on-self.result = reached_in_bits _ _ _ _ _ 1 first step c.steps_on-self.ensures in
    record { first = rw (first, after) (stepped_first _ _ _ _ _ s.numbers left reach); lo_next = search rules }
