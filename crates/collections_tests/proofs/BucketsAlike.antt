-- The three pairs of one bucket of a test.
use Rattle.std.proofs.Common.{◌≡◌, ◌∙◌, ℕ, List, [], ◌∷◌, ◌++◌, ap, refl}
use Rattle.std.specs.Prelude.{ℤ, pos}
use Rattle.std.specs.Global.{Vec}
use Rattle.std.specs.Map.{keys_of}
use Rattle.par_laws.specs.Hash.{int_hash, mixed}
use Rattle.par_combiner.specs.Chunks.{items_of}
use Rattle.par_flat.specs.Blocks.{AreOfBucket}
use Rattle.par_trie.specs.Buckets.{bucket_of_hash}

abbrev pub three : List (ℤ × ℕ)
three = (pos 0, 1) ∷ (pos 4294967297, 2) ∷ (pos 0, 3) ∷ []

pub three_of_bucket : AreOfBucket (λ (k : ℤ). bucket_of_hash (int_hash k)) 0 (keys_of three)
unfolding int_hash mixed
three_of_bucket = (refl, (refl, (refl, tt)))

-- the items of two chunks
pub items_of_two : (first second : Vec (ℤ × ℕ)) (chunks : List (Vec (ℤ × ℕ))) → chunks ≡ first ∷ second ∷ [] → first.items ≡ (pos 0, 1) ∷ (pos 4294967297, 2) ∷ [] → second.items ≡ (pos 0, 3) ∷ [] → items_of chunks ≡ three
items_of_two first second chunks e f s = ap items_of e ∙ (ap (λ (xs : List (ℤ × ℕ)). xs ++ (second.items ++ [])) f ∙ ap (λ (ys : List (ℤ × ℕ)). (pos 0, 1) ∷ (pos 4294967297, 2) ∷ (ys ++ [])) s)
