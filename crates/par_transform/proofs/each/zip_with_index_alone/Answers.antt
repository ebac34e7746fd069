use Rattle.std.proofs.Common.{◌∙◌, ap, map, IfOk, subst}
use Rattle.std.specs.List.{zip}
use Rattle.par_transform.specs.Indexes.{indexes}
use Rattle.par_transform.proofs.Items.{length_pairs, ran_as, zip_indexes}
use Rattle.par_task.specs.Manners.{alone}
use Rattle.par_transform.proofs.each.zip_with_index_alone.Goals as goal

pub returns-clause-answer : goal.returns-clause-answer
returns-clause-answer g c =
    let items = g.S.Splitter.items c.args.source in
    subst (λ zs. IfOk c.zip_alone.result (λ r. g.C.Combiner.stands r.0 (map (g.F.Mapper.mapped c.args.of.now) zs)))
    (ap (zip items) (c.indexes_of-indexes.ensures ∙ ap indexes c.remaining.ensures) ∙ zip_indexes items) c.zip_alone.ensures.answer

pub returns-clause-audit : goal.returns-clause-audit
returns-clause-audit g c =
    let items = g.S.Splitter.items c.args.source in
    ran_as _ items (alone c.args.level) c.zip_alone.result (length_pairs items _ (c.indexes_of-indexes.ensures ∙ ap indexes c.remaining.ensures)) c.zip_alone.ensures.audit
