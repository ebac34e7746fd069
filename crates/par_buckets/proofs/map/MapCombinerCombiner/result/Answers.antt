use Rattle.std.proofs.Common.{◌≡◌, ◌∙◌, ap, sym, subst, [], arith}
use Rattle.std.specs.List.{IsDistinct}
use Rattle.std.specs.Map.{keys_of}
use Rattle.std.specs.Ordering.{eq_by_cmp, is_eq}
use Rattle.par_index.specs.Entries.{joined}
use Rattle.par_trie.specs.Buckets.{bucket_of_hash}
use Rattle.par_buckets.specs.Values.{insert_entries}
use Rattle.par_buckets.proofs.Values.{distinct-none, is_map_of}
use Rattle.par_buckets.proofs.map.MapCombinerCombiner.result.Goals as goal

pub returns : goal.returns
returns g c = λ xs has.
    let made : c.insert_pairs.new.trie ≡ insert_entries g.K.PartialEq.eq [] (joined c.args.self.pairs.1) = c.in_ok-insert_pairs.ensures.pairs ∙ (ap (λ es. insert_entries g.K.PartialEq.eq es c.in_ok-into_vec.field-0.items) c.new-trie.ensures ∙ ap (insert_entries g.K.PartialEq.eq []) c.in_ok-into_vec.ensures.items) in
    let distinct : IsDistinct g.K.PartialEq.eq (keys_of c.insert_pairs.new.trie) = c.in_ok-insert_pairs.ensures.distinct (subst (λ es. IsDistinct g.K.PartialEq.eq (keys_of es)) (sym c.new-trie.ensures) (distinct-none g.K.PartialEq.eq)) in
    is_map_of g.K.PartialEq.eq g.met.K.Eq.laws (λ k. bucket_of_hash (g.K.HashKey.hash (g.K.Shown.shown k))) (λ x y t. ap (λ v. bucket_of_hash (g.K.HashKey.hash v)) (g.met.K.HashKey.told x y t)) (λ k. omega arith) (eq_by_cmp g.K.HashKey.order) g.K.Shown.shown g.V.Shown.shown (λ x y. g.met.K.Ord.matches_eq x y ∙ ap is_eq (g.met.K.HashKey.ordered x y)) c.insert_pairs.new.trie c.args.self.pairs xs made distinct has
