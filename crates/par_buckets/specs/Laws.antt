-- Laws of items by bucket: how many there are, and what two of them have together.
use Rattle.std.proofs.Common.{◌≡◌, ℕ, zero, suc, List, [], ◌∷◌, ◌++◌, length, get_or, map, refl, ap, sym, ◌∙◌, arith, length-append}
use Rattle.std.specs.Prelude.{◌==◌, filter}
use Rattle.std.proofs.lemmas.List.{map-append, length-map}
use Rattle.std.proofs.lemmas.List.Elements.{filter-append}
use Rattle.par_buckets.specs.Held.{joined_each, together, IsSorted}
use Rattle.par_buckets.specs.Values.{Has}

module _ {X : Type 0} where
  pub length-joined_each : (lists others : List (List X)) → length (joined_each lists others) ≡ length lists
  length-joined_each [] others = refl
  length-joined_each (xs ∷ lists) [] = refl
  length-joined_each (xs ∷ lists) (ys ∷ others) = ap suc (length-joined_each lists others)

  pub at-joined_each : (lists others : List (List X)) (i : ℕ) → length others ≡ length lists → get_or (joined_each lists others) i [] ≡ get_or lists i [] ++ get_or others i []
  at-joined_each [] [] i e = refl
  at-joined_each [] (ys ∷ others) i e = absurd (omega (arith, e))
  at-joined_each (xs ∷ lists) [] i e = absurd (omega (arith, e))
  at-joined_each (xs ∷ lists) (ys ∷ others) zero e = refl
  at-joined_each (xs ∷ lists) (ys ∷ others) (suc i) e = at-joined_each lists others i (omega (arith, e))

module _ {X : Type 0} (bucket : X → ℕ) where
  sorted-together : (v w : ℕ × List (List X)) (xs ys : List X) → IsSorted bucket v xs → IsSorted bucket w ys → IsSorted bucket (together v w) (xs ++ ys)
  sorted-together v w xs ys a b = record {
    counted = omega (arith, a.counted, b.counted, length-append xs ys);
    many = length-joined_each v.1 w.1 ∙ a.many;
    sorted = λ i l. at-joined_each v.1 w.1 i (b.many ∙ sym a.many) ∙ (ap (λ zs. zs ++ get_or w.1 i []) (a.sorted i l) ∙ (ap (λ zs. filter (λ y. bucket y == i) xs ++ zs) (b.sorted i l) ∙ sym (filter-append (λ y. bucket y == i) xs ys)));
  }

module _ {X Y : Type 0} (bucket : X → ℕ) (see : X → Y) where
  -- the items of the first, and then those of the second
  pub has-together : (v w : ℕ × List (List X)) (xs ys : List Y) → Has bucket see v xs → Has bucket see w ys → Has bucket see (together v w) (xs ++ ys)
  has-together v w xs ys a b = (a.0 ++ b.0, sorted-together bucket v w a.0 b.0 a.1 b.1, map-append see a.0 b.0 ∙ (ap (λ zs. zs ++ map see b.0) a.2 ∙ ap (λ zs. xs ++ zs) b.2))

  -- as many as there are items
  pub has-counts : (v : ℕ × List (List X)) (ys : List Y) → Has bucket see v ys → v.0 ≡ length ys
  has-counts v ys has = has.1.counted ∙ (sym (length-map has.0 see) ∙ ap length has.2)
