-- Lists that are joined.
use Rattle.std.proofs.Common.{◌≡◌, List, ◌++◌, ap, ◌∙◌}

-- the joins of equal lists are equal
pub lists_join : {X : Type 0} (v w xs ys : List X) → v ≡ xs → w ≡ ys → v ++ w ≡ xs ++ ys
lists_join v w xs ys p q = ap (λ a. a ++ w) p ∙ ap (λ b. xs ++ b) q
