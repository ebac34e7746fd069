use Rattle.std.proofs.Common.{◌≡◌, ◌∙◌, ap, sym, subst, refl, length, replicate, [], ◌∷◌, ◌++◌, arith, ℕ, List}
use Rattle.std.specs.Prelude.{ℤ, slice_get}
use Rattle.par_index.specs.Entries.{joined}
use Rattle.par_laws.specs.Hash.{int_hash}
use Rattle.par_flat.specs.Rooms.{bucket_of_hash}
use Rattle.par_flat.specs.Blocks.{AreOfBucket}
use Rattle.par_flat.proofs.EmptyBlocks.{empty_at, joined_empty, length_empty, more_empty}
use Rattle.par_flat.proofs.tests.of_blocks.Goals as goal

pub from_blocks-requires-clause-count : goal.from_blocks-requires-clause-count
from_blocks-requires-clause-count c =
    omega (arith, ap length c.loop-bucket.invariant, length_empty ℤ c.loop-bucket.bucket)

pub from_blocks-requires-clause-buckets : goal.from_blocks-requires-clause-buckets
from_blocks-requires-clause-buckets c = λ i ks e.
    let none : ks ≡ [] = empty_at c.loop-bucket.bucket i ks (ap (λ (bs : List (List ℤ)). slice_get bs i) (sym c.loop-bucket.invariant) ∙ e) in
    subst (λ (xs : List ℤ). AreOfBucket (λ (k : ℤ). bucket_of_hash (int_hash k)) i xs) (sym none) tt

pub from_blocks-requires-clause-room : goal.from_blocks-requires-clause-room
from_blocks-requires-clause-room c =
    omega (arith, ap (λ (bs : List (List ℤ)). length (joined bs)) c.loop-bucket.invariant, ap length (joined_empty {A = ℤ} c.loop-bucket.bucket))

pub loop-bucket-preserved : goal.loop-bucket-preserved
loop-bucket-preserved c =
    let none : c.in_ok-empty.empty ≡ [] = c.in_ok-empty.ensures.keys ∙ rw c.new.ensures refl in
    c.in_ok-push.ensures.items
    ∙ (ap (λ (b : List ℤ). c.loop-bucket.blocks.items ++ b ∷ []) none
    ∙ (ap (λ (bs : List (List ℤ)). bs ++ [] ∷ []) c.loop-bucket.invariant ∙ more_empty {A = ℤ} c.loop-bucket.bucket))
