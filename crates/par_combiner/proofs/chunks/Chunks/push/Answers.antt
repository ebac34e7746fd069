use Rattle.std.proofs.Common.{rules, arith, ap, length, ◌≡◌, ◌≤◌, ◌∙◌, sym}
use Rattle.par_combiner.specs.Chunks.{before_last, items_of}
use Rattle.par_combiner.proofs.Pieces.{none_before}
use Rattle.par_combiner.proofs.chunks.Chunks.push.Goals as goal

pub invariant_of-self : goal.invariant_of-self
invariant_of-self g c =
    let none : length c.self.inside.list ≡ 0 = search rules in
    let one : length (items_of c.push_first.new.list) ≡ 1 = ap length c.in_ok-push_first.ensures.items in (
      c.self.invariant.0 ∙ (none_before c.self.inside.list none ∙ sym c.in_ok-push_first.ensures.before),
      omega (arith, one, c.in_ok-push_first.ensures.chunks),
      omega (arith, one),
    )
