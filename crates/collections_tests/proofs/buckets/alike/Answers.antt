use Rattle.std.proofs.Common.{◌≡◌, ◌∙◌, ◌++◌, ◌∷◌, [], ap, sym, subst, arith, length, List, ℕ}
use Rattle.std.specs.Prelude.{ℤ, pos}
use Rattle.std.specs.Global.{Vec}
use Rattle.std.specs.Map.{keys_of}
use Rattle.par_laws.specs.Hash.{int_hash}
use Rattle.par_combiner.specs.Chunks.{items_of}
use Rattle.par_flat.specs.Blocks.{AreOfBucket}
use Rattle.par_trie.specs.Buckets.{bucket_of_hash}
use Rattle.collections_tests.proofs.BucketsAlike.{items_of_two, three, three_of_bucket}
use Rattle.collections_tests.proofs.buckets.alike.Goals as goal

pub returns-clause-keys : goal.returns-clause-keys
returns-clause-keys c =
    let first : c.push-2.new.self.items ≡ (pos 0, 1) ∷ (pos 4294967297, 2) ∷ [] = c.in_ok-push-2.ensures.items ∙ ap (λ (l : List (ℤ × ℕ)). l ++ (pos 4294967297, 2) ∷ []) (c.in_ok-push.ensures.items ∙ ap (λ (l : List (ℤ × ℕ)). l ++ (pos 0, 1) ∷ []) c.new-first.ensures.items) in
    let second : c.push-3.new.self.items ≡ (pos 0, 3) ∷ [] = c.in_ok-push-3.ensures.items ∙ ap (λ (l : List (ℤ × ℕ)). l ++ (pos 0, 3) ∷ []) c.new-second.ensures.items in
    let chunks : c.push_back-2.new.self ≡ c.push-2.new.self ∷ c.push-3.new.self ∷ [] = c.in_ok-push_back-2.ensures.items ∙ ap (λ (l : List (Vec (ℤ × ℕ))). l ++ c.push-3.new.self ∷ []) (c.in_ok-push_back.ensures.items ∙ ap (λ (l : List (Vec (ℤ × ℕ))). l ++ c.push-2.new.self ∷ []) c.new-pairs.ensures) in
    let all : items_of c.push_back-2.new.self ≡ three = items_of_two c.push-2.new.self c.push-3.new.self c.push_back-2.new.self chunks first second in
    subst (λ (ps : List (ℤ × ℕ)). AreOfBucket (λ (k : ℤ). bucket_of_hash (int_hash k)) 0 (keys_of ps)) (sym all) three_of_bucket

pub returns-clause-few : goal.returns-clause-few
returns-clause-few c =
    let first : c.push-2.new.self.items ≡ (pos 0, 1) ∷ (pos 4294967297, 2) ∷ [] = c.in_ok-push-2.ensures.items ∙ ap (λ (l : List (ℤ × ℕ)). l ++ (pos 4294967297, 2) ∷ []) (c.in_ok-push.ensures.items ∙ ap (λ (l : List (ℤ × ℕ)). l ++ (pos 0, 1) ∷ []) c.new-first.ensures.items) in
    let second : c.push-3.new.self.items ≡ (pos 0, 3) ∷ [] = c.in_ok-push-3.ensures.items ∙ ap (λ (l : List (ℤ × ℕ)). l ++ (pos 0, 3) ∷ []) c.new-second.ensures.items in
    let chunks : c.push_back-2.new.self ≡ c.push-2.new.self ∷ c.push-3.new.self ∷ [] = c.in_ok-push_back-2.ensures.items ∙ ap (λ (l : List (Vec (ℤ × ℕ))). l ++ c.push-3.new.self ∷ []) (c.in_ok-push_back.ensures.items ∙ ap (λ (l : List (Vec (ℤ × ℕ))). l ++ c.push-2.new.self ∷ []) c.new-pairs.ensures) in
    let all : items_of c.push_back-2.new.self ≡ three = items_of_two c.push-2.new.self c.push-3.new.self c.push_back-2.new.self chunks first second in
    omega (arith, ap length all)
