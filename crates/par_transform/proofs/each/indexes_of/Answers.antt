use Rattle.std.proofs.Common.{rules, ◌≡◌, sym, subst, pos, to_z, of_z, w64}
use Rattle.par_splitter.specs.Range.{IsRangeCount}
use Rattle.par_transform.proofs.Items.{count_up, is_indexes}
use Rattle.par_transform.proofs.each.indexes_of.Goals as goal

pub new-requires-clause-count : goal.new-requires-clause-count
new-requires-clause-count c =
    let e : to_z w64 (of_z w64 c.from.result) ≡ pos c.args.n = search rules in
    (c.args.n, subst (λ b. IsRangeCount (pos 0) b (pos 1) c.args.n) (sym e) (count_up c.args.n), c.requires)

pub returns : goal.returns
returns c =
    let e : to_z w64 (of_z w64 c.from.result) ≡ pos c.args.n = search rules in
    is_indexes c.args.n (to_z w64 (of_z w64 c.from.result)) _ e c.new.ensures.list
