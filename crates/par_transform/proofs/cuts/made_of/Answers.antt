use Rattle.std.proofs.Common.{[], ◌∷◌, ◌++◌, map, ap, sym, ◌∙◌, subst, append_assoc}
use Rattle.std.proofs.lemmas.List.{map-append}
use Rattle.par_transform.proofs.cuts.made_of.Goals as goal

pub loop-item-preserved : goal.loop-item-preserved
loop-item-preserved g c =
    let f = g.F.Mapper.mapped c.args.of.now in
    let i = c.loop-item.invariant in
    let x = g.S.Item.Shown.shown c.in-Some.item in (
      i.0 ++ x ∷ [],
      record {
        whole = append_assoc i.0 (x ∷ []) (g.S.Splitter.items c.next.new.self) ∙ (ap (λ v. i.0 ++ v) (sym c.in-Some.ensures.first) ∙ i.1.whole);
        made =
            subst (g.C.Combiner.has (g.C.Shown.shown c.add.new.self)) (ap (λ u. map f i.0 ++ u ∷ []) c.in_ok-map.ensures ∙ sym (map-append f i.0 (x ∷ [])))
            (c.in_ok-add.ensures.added (map f i.0) i.1.made);
      },
    )
