-- Why what is made of two lists is made of both.
use Rattle.std.proofs.Common.{◌≡◌, List, ◌++◌, map, sym, subst}
use Rattle.std.proofs.lemmas.List.{map-append}

-- where a combiner has what is made of each of two lists, their join has what is made of both
pub collected_join :
    {X U V : Type 0} (has : V → List U → Type 0) (joined : V → V → V) (joins : (v w : V) (xs ys : List U) → has v xs → has w ys → has (joined v w) (xs ++ ys))
    (f : X → U) (xs ys : List X) (v w c : V) → has v (map f xs) → has w (map f ys) → c ≡ joined v w → has c (map f (xs ++ ys))
collected_join has joined joins f xs ys v w c p q same =
    subst (λ u. has u (map f (xs ++ ys))) (sym same)
    (subst (has (joined v w)) (sym (map-append f xs ys)) (joins v w (map f xs) (map f ys) p q))
