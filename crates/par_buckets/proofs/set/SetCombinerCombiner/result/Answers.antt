use Rattle.std.proofs.Common.{◌≡◌, ◌∙◌, ap, []}
use Rattle.std.specs.Ordering.{eq_by_cmp, is_eq}
use Rattle.par_index.specs.Entries.{joined}
use Rattle.par_flat.specs.Rooms.{bucket_of_hash}
use Rattle.par_flat.specs.Keys.{insert_keys}
use Rattle.par_buckets.proofs.Sets.{flat_few, is_set_of}
use Rattle.par_buckets.proofs.set.SetCombinerCombiner.result.Goals as goal

pub returns : goal.returns
returns g c = λ xs has.
    let made : c.add_leftovers.new.self ≡ insert_keys g.K.PartialEq.eq [] (joined c.args.self.keys.1) = c.in_ok-add_leftovers.ensures.ok ∙ (ap (λ ks. insert_keys g.K.PartialEq.eq ks c.in_ok-keys.keys.items) c.in_ok-table.ensures ∙ ap (insert_keys g.K.PartialEq.eq []) c.in_ok-keys.ensures.items) in
    is_set_of g.K.PartialEq.eq g.met.K.Eq.laws (λ k. bucket_of_hash (g.K.HashKey.hash (g.K.Shown.shown k))) (λ x y t. ap (λ v. bucket_of_hash (g.K.HashKey.hash v)) (g.met.K.HashKey.told x y t)) (λ k. flat_few (g.K.HashKey.hash (g.K.Shown.shown k))) (eq_by_cmp g.K.HashKey.order) g.K.Shown.shown (λ x y. g.met.K.Ord.matches_eq x y ∙ ap is_eq (g.met.K.HashKey.ordered x y)) c.add_leftovers.new.self c.args.self.keys xs made has
