use Rattle.std.proofs.Common.{rules, arith, ap, length, length-append, ◌≡◌, ◌+◌, ◌<◌, ◌≤◌, ◌∙◌, ◌++◌, sym, Fits, w32}
use Rattle.std.proofs.lemmas.Grind.{flat_map-append}
use Rattle.par_combiner.specs.Chunks.{before_last, items_of}
use Rattle.par_combiner.proofs.Pieces.{append_before, before_le}
use Rattle.par_combiner.proofs.chunks.Chunks.append.Goals as goal

pub overflow_add-before : goal.overflow_add-before
overflow_add-before g c = omega (arith, before_le c.other.inside.list, c.other.invariant.0, c.len.ensures, c.requires, ap length c.other.view_is)

pub invariant_of-self : goal.invariant_of-self
invariant_of-self g c =
    let xs = c.self.inside.list in
    let ys = c.other.inside.list in
    let some : 0 < length ys = search rules in
    let is : c.append.new.self ≡ xs ++ ys = c.in-Ok.ensures.items in
    let all : length (items_of c.append.new.self) ≡ length (items_of xs) + length (items_of ys) = ap (λ v. length (items_of v)) is ∙ (ap length (flat_map-append (λ v. v.items) xs ys) ∙ length-append (items_of xs) (items_of ys)) in
    let before : before_last c.append.new.self ≡ length (items_of xs) + before_last ys = ap before_last is ∙ append_before xs ys some in
    let list : length c.append.new.self ≡ length xs + length ys = ap length is ∙ length-append xs ys in (
      omega (arith, before, c.len.ensures, c.other.invariant.0, ap length c.self.view_is),
      omega (arith, list, all, c.self.invariant.1, c.other.invariant.1),
      omega (arith, all, c.requires, ap length c.self.view_is, ap length c.other.view_is),
    )
