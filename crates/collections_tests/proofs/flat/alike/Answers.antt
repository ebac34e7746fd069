use Rattle.std.proofs.Common.{◌≡◌, ◌∙◌, ◌++◌, ◌∷◌, [], ap, sym, subst, append-nil, List}
use Rattle.std.specs.Prelude.{ℤ, pos, negsuc}
use Rattle.std.specs.Global.{Vec}
use Rattle.std.specs.List.{flat_map}
use Rattle.std.proofs.lemmas.List.Concat.{flat_map-cons}
use Rattle.par_laws.specs.Hash.{int_hash}
use Rattle.par_flat.specs.Rooms.{bucket_of_hash}
use Rattle.par_flat.specs.Blocks.{AreOfBucket}
use Rattle.collections_tests.proofs.FlatAlike.{three, three_of_bucket}
use Rattle.collections_tests.proofs.flat.alike.Goals as goal

pub fill_block-requires-clause-keys : goal.fill_block-requires-clause-keys
fill_block-requires-clause-keys c =
    let chunk : c.push-3.new.self.items ≡ three = c.in_ok-push-3.ensures.items ∙ ap (λ (l : List ℤ). l ++ negsuc 0 ∷ []) (c.in_ok-push-2.ensures.items ∙ ap (λ (l : List ℤ). l ++ pos 4294967297 ∷ []) (c.in_ok-push.ensures.items ∙ ap (λ (l : List ℤ). l ++ pos 0 ∷ []) c.new-chunk.ensures.items)) in
    let chunks : c.push_back.new.self ≡ c.push-3.new.self ∷ [] = c.in_ok-push_back.ensures.items ∙ ap (λ (l : List (Vec ℤ)). l ++ c.push-3.new.self ∷ []) c.new-keys.ensures in
    let keys : flat_map (λ (v : Vec ℤ). v.items) c.push_back.new.self ≡ three = ap (flat_map (λ (v : Vec ℤ). v.items)) chunks ∙ (flat_map-cons (λ (v : Vec ℤ). v.items) c.push-3.new.self [] ∙ (append-nil c.push-3.new.self.items ∙ chunk)) in
    subst (λ (ks : List ℤ). AreOfBucket (λ (k : ℤ). bucket_of_hash (int_hash k)) 0 ks) (sym keys) three_of_bucket
