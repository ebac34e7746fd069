-- What is gathered of lists, as far as a collection has room.
use Rattle.std.proofs.Common.{◌≡◌, ℕ, ◌+◌, ◌≤◌, ◌<◌, inl, inr, List, ◌++◌, length, length-append, sym, ◌∙◌, subst, arith}
use Rattle.std.specs.List.{flat_map}
use Rattle.std.proofs.lemmas.Bool.{cases_lt}
use Rattle.std.proofs.lemmas.List.Concat.{flat_map-append}
use Rattle.par_transform.specs.declared.flattening.Flat.{Flat}
use Rattle.par_transform.specs.declared.flattening.Flat.TheVariants.{Kept, Over}

-- f of what was kept
abbrev pub flat_shown : {X Y : Type 0} → (X → Y) → Flat X → Flat Y
flat_shown f (Kept v) = Kept (f v)
flat_shown f Over = Over

-- all items are kept, and they are at most 4,194,304; or there are more
abbrev pub IsFlat : {V X : Type 0} → (V → List X → Type 0) → Flat V → List X → Type 0
IsFlat has (Kept v) xs = has v xs × (length xs ≤ 4194304)
IsFlat has Over xs = 4194304 < length xs

-- what is joined: all that both kept, as far as a collection has room
abbrev pub FlatJoins : {V : Type 0} → (V → ℕ) → (V → V → V) → Flat V → Flat V → Flat V → Type 0
FlatJoins count join (Kept a) (Kept b) c = (4194304 < count a + count b → c ≡ Over) × (count a + count b ≤ 4194304 → c ≡ Kept (join a b))
FlatJoins count join (Kept a) Over c = c ≡ Over
FlatJoins count join Over b c = c ≡ Over

pub one_flat : {V : Type 0} (count : V → ℕ) (join : V → V → V) (v w c d : Flat V) → FlatJoins count join v w c → FlatJoins count join v w d → c ≡ d
one_flat count join (Kept a) (Kept b) c d p q = elim (cases_lt 4194304 (count a + count b)) [ inl more ↦ p.0 more ∙ sym (q.0 more) | inr few ↦ p.1 few ∙ sym (q.1 few) ]
one_flat count join (Kept a) Over c d p q = p ∙ sym q
one_flat count join Over b c d p q = p ∙ sym q

module _ {V X : Type 0} (has : V → List X → Type 0) (count : V → ℕ) (joined : V → V → V) (counts : (v : V) (xs : List X) → has v xs → count v ≡ length xs)
    (joins : (v w : V) (xs ys : List X) → has v xs → has w ys → has (joined v w) (xs ++ ys)) where
  flat_join : (v w c : Flat V) (xs ys : List X) → IsFlat has v xs → IsFlat has w ys → FlatJoins count joined v w c → IsFlat has c (xs ++ ys)
  flat_join (Kept a) (Kept b) c xs ys p q m =
      elim (cases_lt 4194304 (count a + count b)) [
        | inl more ↦ subst (λ f. IsFlat has f (xs ++ ys)) (sym (m.0 more)) (omega (arith, more, counts a xs p.0, counts b ys q.0, length-append xs ys))
        | inr few ↦
            subst (λ f. IsFlat has f (xs ++ ys)) (sym (m.1 few))
            (joins a b xs ys p.0 q.0, omega (arith, few, counts a xs p.0, counts b ys q.0, length-append xs ys))
      ]
  flat_join (Kept a) Over c xs ys p q m = subst (λ f. IsFlat has f (xs ++ ys)) (sym m) (omega (arith, q, length-append xs ys))
  flat_join Over b c xs ys p q m = subst (λ f. IsFlat has f (xs ++ ys)) (sym m) (omega (arith, p, length-append xs ys))

  pub flattened_join :
      {A : Type 0} (f : A → List X) (xs ys : List A) (v w c : Flat V) → IsFlat has v (flat_map f xs) → IsFlat has w (flat_map f ys) → FlatJoins count joined v w c → IsFlat has c (flat_map f (xs ++ ys))
  flattened_join f xs ys v w c p q m = subst (IsFlat has c) (sym (flat_map-append f xs ys)) (flat_join v w c (flat_map f xs) (flat_map f ys) p q m)
