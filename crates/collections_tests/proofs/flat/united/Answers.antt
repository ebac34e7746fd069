use Rattle.std.proofs.Common.{rules, ◌≡◌, ◌∙◌, ◌-◌, ◌+◌, ap, sym, subst, refl, length, replicate, [], ◌∷◌, ◌++◌, arith, ℕ, List, append_assoc, append-nil, length-append}
use Rattle.std.specs.Prelude.{ℤ, slice_get, Some}
use Rattle.par_index.specs.Entries.{joined}
use Rattle.collections_tests.proofs.FlatAlike.{first_and_empty, first_room, length_empty, more_empty}
use Rattle.collections_tests.proofs.flat.united.Goals as goal

pub from_blocks-requires-clause-count : goal.from_blocks-requires-clause-count
from_blocks-requires-clause-count c =
    let first : c.push.new.self.items ≡ c.in_ok-alike.field-0 ∷ [] = c.in_ok-push.ensures.items ∙ ap (λ (bs : List (List ℤ)). bs ++ c.in_ok-alike.field-0 ∷ []) c.new-blocks.ensures.items in
    omega (arith, ap length c.loop-bucket.invariant.blocks_are, length-append c.push.new.self.items (replicate (c.loop-bucket.bucket - 1) []), ap length first, length_empty (c.loop-bucket.bucket - 1))

pub from_blocks-requires-clause-buckets : goal.from_blocks-requires-clause-buckets
from_blocks-requires-clause-buckets c = λ i ks e.
    let first : c.push.new.self.items ≡ c.in_ok-alike.field-0 ∷ [] = c.in_ok-push.ensures.items ∙ ap (λ (bs : List (List ℤ)). bs ++ c.in_ok-alike.field-0 ∷ []) c.new-blocks.ensures.items in
    let all : c.loop-bucket.blocks.items ≡ c.in_ok-alike.field-0 ∷ replicate (c.loop-bucket.bucket - 1) [] = c.loop-bucket.invariant.blocks_are ∙ ap (λ (bs : List (List ℤ)). bs ++ replicate (c.loop-bucket.bucket - 1) []) first in
    first_and_empty c.in_ok-alike.field-0 ks (c.loop-bucket.bucket - 1) i c.in_ok-alike.ensures.bucket (ap (λ (bs : List (List ℤ)). slice_get bs i) (sym all) ∙ e)

pub from_blocks-requires-clause-room : goal.from_blocks-requires-clause-room
from_blocks-requires-clause-room c =
    let first : c.push.new.self.items ≡ c.in_ok-alike.field-0 ∷ [] = c.in_ok-push.ensures.items ∙ ap (λ (bs : List (List ℤ)). bs ++ c.in_ok-alike.field-0 ∷ []) c.new-blocks.ensures.items in
    let all : c.loop-bucket.blocks.items ≡ c.in_ok-alike.field-0 ∷ replicate (c.loop-bucket.bucket - 1) [] = c.loop-bucket.invariant.blocks_are ∙ ap (λ (bs : List (List ℤ)). bs ++ replicate (c.loop-bucket.bucket - 1) []) first in
    omega (arith, ap (λ (bs : List (List ℤ)). length (joined bs)) all, first_room c.in_ok-alike.field-0 (c.loop-bucket.bucket - 1), c.in_ok-alike.ensures.few)

pub loop-bucket-preserved : goal.loop-bucket-preserved
loop-bucket-preserved c =
    let none : c.in_ok-empty.empty ≡ [] = c.in_ok-empty.ensures.keys ∙ rw c.new.ensures refl in
    let next : c.loop-bucket.bucket - 1 + 1 ≡ c.loop-bucket.bucket + 1 - 1 = omega (arith, c.loop-bucket.invariant.counted) in
    record {
      blocks_are = c.in_ok-push-2.ensures.items ∙ (ap (λ (b : List ℤ). c.loop-bucket.blocks.items ++ b ∷ []) none ∙ (ap (λ (bs : List (List ℤ)). bs ++ [] ∷ []) c.loop-bucket.invariant.blocks_are ∙ (append_assoc c.push.new.self.items (replicate (c.loop-bucket.bucket - 1) []) ([] ∷ []) ∙ ap (λ (bs : List (List ℤ)). c.push.new.self.items ++ bs) (more_empty (c.loop-bucket.bucket - 1) ∙ ap (λ (m : ℕ). replicate {A = List ℤ} m []) next))));
      counted = omega arith;
    }
