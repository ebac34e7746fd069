use Rattle.std.proofs.Common.{◌≡◌, ◌+◌, ◌-◌, ◌<◌, ◌^◌, refl, ◌∙◌, rules, arith}
use Rattle.std.specs.Int.{w64}
use Rattle.std.proofs.lemmas.Int.{to_z-of_z}
use Rattle.par_splitter.specs.Range.{IsReached}
use Rattle.par_splitter.proofs.range.RangeSplitterPrecise.cut_at.Goals as goal
use Rattle.par_splitter.proofs.Stepped.{fit_after, stepped_apart, reached_in_bits, length-stepped}

pub overflow_add-mid : goal.overflow_add-mid
overflow_add-mid c =
    let s = c.args.self in
    let n : c.remaining.result ≡ s.hi - s.lo = c.remaining.ensures ∙ length-stepped _ _ _ in
    let h : s.hi < 2 ^ 32 = search rules in
    record { fits = omega (arith, s.ordered, c.min-k.ensures) }

pub invariant_of-result : goal.invariant_of-result
invariant_of-result c =
    let s = c.args.self in
    let first = to_z-of_z w64 s.first (search rules) in
    let step = to_z-of_z w64 s.step (search rules) in
    let n : c.remaining.result ≡ s.hi - s.lo = c.remaining.ensures ∙ length-stepped _ _ _ in
    record { ordered = omega arith; numbers = λ i h. rw (first, step) (s.numbers i (omega (arith, s.ordered, c.min-k.ensures))) }

pub invariant_of-result-2 : goal.invariant_of-result-2
invariant_of-result-2 c =
    let s = c.args.self in
    let first = to_z-of_z w64 s.first (search rules) in
    let step = to_z-of_z w64 s.step (search rules) in
    let after = to_z-of_z w64 c.steps_on.result (search rules) in
    let n : c.remaining.result ≡ s.hi - s.lo = c.remaining.ensures ∙ length-stepped _ _ _ in
    let k = c.min-k.result in
    let left : k + (s.hi - (s.lo + k)) ≡ s.hi - s.lo = omega (arith, s.ordered, c.min-k.ensures) in
    let reach : IsReached s.first s.step k c.steps_on.result = reached_in_bits _ _ _ _ _ k first step c.steps_on.ensures in
    record {
      ordered = omega (arith, s.ordered, c.min-k.ensures);
      numbers = λ i h. rw (after, step) (fit_after _ _ _ k _ _ s.numbers left reach i h);
    }

pub returns : goal.returns
returns c =
    let s = c.args.self in
    let first = to_z-of_z w64 s.first (search rules) in
    let step = to_z-of_z w64 s.step (search rules) in
    let after = to_z-of_z w64 c.steps_on.result (search rules) in
    let n : c.remaining.result ≡ s.hi - s.lo = c.remaining.ensures ∙ length-stepped _ _ _ in
    let k = c.min-k.result in
    let left : k + (s.hi - (s.lo + k)) ≡ s.hi - s.lo = omega (arith, s.ordered, c.min-k.ensures) in
    let taken : s.lo + k - s.lo ≡ k = omega arith in
    let reach : IsReached s.first s.step k c.steps_on.result = reached_in_bits _ _ _ _ _ k first step c.steps_on.ensures in
    record {
      parts = record {
        joined = rw (first, step, after, taken) (stepped_apart _ _ _ k _ _ s.numbers left reach);
        lo_left = refl;
        lo_right = rw length-stepped (omega arith);
      };
      count = rw (length-stepped, length-stepped) (omega (arith, c.min-k.ensures));
    }
