use Rattle.std.proofs.Common.{◌≡◌, ℕ, ◌-◌, ◌≤◌, min, length, take, drop, map, length-append, IfOk, ap, ◌∙◌, subst, arith, rules}
use Rattle.par_lists.specs.Cuts.{place}
use Rattle.par_transform.proofs.Cutting.{cut_front, cut_rest}
use Rattle.par_transform.proofs.cuts.slice.Goals as goal

pub returns : goal.returns
returns g c =
    let items = g.S.Splitter.items in
    let xs = items c.args.source in
    let before = c.cut_at-rest.result.0 in
    let rest = c.cut_at-rest.result.1 in
    let from : ℕ = place c.args.a in
    let count : ℕ = place c.args.b - from in
    let named : c.place_of-from.result ≡ from = search rules in
    let counted : c.saturating_sub-count.result ≡ count = search rules in
    let rest_is : items rest ≡ drop from xs =
    cut_rest xs (items before) (items rest) from c.cut_at-rest.ensures.parts.joined
    (c.cut_at-rest.ensures.count ∙ ap (λ k. min k (length xs)) (c.as_count.ensures ∙ ap (λ k. min k 4294967295) named)) c.requires in
    let fewer : length (items rest) ≤ 4194304 = omega (arith, c.requires, ap length c.cut_at-rest.ensures.parts.joined, length-append (items before) (items rest)) in
    let part_is : items c.cut_at-part.result.0 ≡ take count (items rest) =
    cut_front (items rest) (items c.cut_at-part.result.0) (items c.cut_at-part.result.1) count c.cut_at-part.ensures.parts.joined
    (c.cut_at-part.ensures.count ∙ ap (λ k. min k (length (items rest))) (c.as_count-2.ensures ∙ ap (λ k. min k 4294967295) counted)) fewer in
    subst (λ ys. IfOk c.made_of.result (λ out. g.C.Combiner.stands out (map (g.F.Mapper.mapped c.args.of.now) ys))) (part_is ∙ ap (take count) rest_is) c.made_of.ensures
