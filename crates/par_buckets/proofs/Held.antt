-- Lemmas on items by bucket.
use Rattle.std.proofs.Common.{◌≡◌, ◌≢◌, ℕ, zero, suc, ◌+◌, ◌<◌, ◌≤◌, false, cond, List, [], ◌∷◌, ◌++◌, length, get_or, set, filter, replicate, refl, ap, sym, ◌∙◌, arith, append-nil, append_assoc, length-append, ⊎_elim, eq-eqb, subst}
use Rattle.std.specs.Prelude.{◌==◌}
use Rattle.std.proofs.lemmas.Bool.{cases_eq}
use Rattle.std.proofs.lemmas.Bool.Decides.{nat_tests}
use Rattle.std.proofs.lemmas.List.{map-append, length-replicate, length-set, get_or-set_same, get_or-set_other}
use Rattle.std.proofs.lemmas.List.Elements.{filter-append}
use Rattle.par_index.specs.Entries.{joined}
use Rattle.par_buckets.specs.Values.{Has}
use Rattle.par_buckets.specs.Laws.{length-joined_each}
use Rattle.par_buckets.specs.Held.{added, joined_each, IsHeld, IsSorted}

neq-eqb : (a b : ℕ) → a ≢ b → (a == b) ≡ false
neq-eqb a b n = grind (arith, nat_tests)

module _ {X : Type 0} where
  pub joined_each-none : (lists : List (List X)) → joined_each lists [] ≡ lists
  joined_each-none [] = refl
  joined_each-none (xs ∷ lists) = refl

  -- the list at the place that comes next is as it was
  pub at-next : (lists others : List (List X)) → length others < length lists → get_or (joined_each lists others) (length others) [] ≡ get_or lists (length others) []
  at-next [] others h = absurd (omega (arith, h))
  at-next (xs ∷ lists) [] h = refl
  at-next (xs ∷ lists) (ys ∷ others) h = at-next lists others (omega (arith, h))

  -- one more list is joined
  pub joined_each-push : (lists others : List (List X)) (ys : List X) → length others < length lists → set (joined_each lists others) (length others) (get_or (joined_each lists others) (length others) [] ++ ys) ≡ joined_each lists (others ++ ys ∷ [])
  joined_each-push [] others ys h = absurd (omega (arith, h))
  joined_each-push (xs ∷ lists) [] ys h = ap (λ rest. (xs ++ ys) ∷ rest) (sym (joined_each-none lists))
  joined_each-push (xs ∷ lists) (zs ∷ others) ys h = ap (λ rest. (xs ++ zs) ∷ rest) (joined_each-push lists others ys (omega (arith, h)))

  pub at-none : (n i : ℕ) → get_or (replicate {A = List X} n []) i [] ≡ []
  at-none zero i = refl
  at-none (suc n) zero = refl
  at-none (suc n) (suc i) = at-none n i

  pub none-push : (n : ℕ) → replicate {A = List X} n [] ++ [] ∷ [] ≡ replicate (n + 1) []
  none-push zero = refl
  none-push (suc n) = let more : suc (n + 1) ≡ suc n + 1 = omega arith in ap (λ (ls : List (List X)). [] ∷ ls) (none-push n) ∙ ap (λ (m : ℕ). replicate {A = List X} m []) more

  pub at_default : (xs : List (List X)) (i : ℕ) (d e : List X) → i < length xs → get_or xs i d ≡ get_or xs i e
  at_default [] i d e h = absurd (omega (arith, h))
  at_default (x ∷ xs) zero d e h = refl
  at_default (x ∷ xs) (suc i) d e h = at_default xs i d e (omega (arith, h))

  none-joined : (n : ℕ) → joined (replicate {A = List X} n []) ≡ []
  none-joined zero = refl
  none-joined (suc n) = none-joined n

  pub held-none : IsHeld {X = X} 0 (replicate 32 [])
  held-none = record {
    many = length-replicate {A = List X} 32 [];
    total = ap length (none-joined 32);
    small = omega arith;
  }

  pub few-at : (lists : List (List X)) (i : ℕ) → length (get_or lists i []) ≤ length (joined lists)
  few-at [] i = omega arith
  few-at (xs ∷ lists) zero = omega (arith, length-append xs (joined lists))
  few-at (xs ∷ lists) (suc i) = omega (arith, few-at lists i, length-append xs (joined lists))

  total-set : (lists : List (List X)) (i : ℕ) (x : X) → i < length lists → length (joined (set lists i (get_or lists i [] ++ x ∷ []))) ≡ length (joined lists) + 1
  total-set [] i x h = absurd (omega (arith, h))
  total-set (xs ∷ lists) zero x h = omega (arith, length-append (xs ++ x ∷ []) (joined lists), length-append xs (x ∷ []), length-append xs (joined lists))
  total-set (xs ∷ lists) (suc i) x h = omega (arith, total-set lists i x (omega (arith, h)), length-append xs (joined lists), length-append xs (joined (set lists i (get_or lists i [] ++ x ∷ []))))

  total-together : (lists others : List (List X)) → length others ≡ length lists → length (joined (joined_each lists others)) ≡ length (joined lists) + length (joined others)
  total-together [] [] e = refl
  total-together [] (ys ∷ others) e = absurd (omega (arith, e))
  total-together (xs ∷ lists) [] e = absurd (omega (arith, e))
  total-together (xs ∷ lists) (ys ∷ others) e = omega (arith, total-together lists others (omega (arith, e)), length-append xs ys, length-append (xs ++ ys) (joined (joined_each lists others)), length-append xs (joined lists), length-append ys (joined others))

  pub held-added : (c i : ℕ) (lists : List (List X)) (x : X) → IsHeld c lists → i < 32 → c < 4194304 → IsHeld (c + 1) (set lists i (get_or lists i [] ++ x ∷ []))
  held-added c i lists x is h room = record {
    many = rw length-set is.many;
    total = omega (arith, total-set lists i x (omega (arith, h, is.many)), is.total);
    small = omega (arith, room);
  }

  pub held-together : (c d : ℕ) (lists others : List (List X)) → IsHeld c lists → IsHeld d others → c + d ≤ 4194304 → IsHeld (c + d) (joined_each lists others)
  held-together c d lists others a b room = record {
    many = length-joined_each lists others ∙ a.many;
    total = omega (arith, total-together lists others (b.many ∙ sym a.many), a.total, b.total);
    small = room;
  }

  pub at-middle : (xs ys : List (List X)) (x : List X) → get_or (xs ++ x ∷ ys) (length xs) [] ≡ x
  at-middle [] ys x = refl
  at-middle (z ∷ xs) ys x = at-middle xs ys x

  pub joined-push : (lists : List (List X)) (xs : List X) → joined (lists ++ xs ∷ []) ≡ joined lists ++ xs
  joined-push [] xs = append-nil xs
  joined-push (ys ∷ lists) xs = ap (λ zs. ys ++ zs) (joined-push lists xs) ∙ sym (append_assoc ys (joined lists) xs)

  joined-append : (lists others : List (List X)) → joined (lists ++ others) ≡ joined lists ++ joined others
  joined-append [] others = refl
  joined-append (ys ∷ lists) others = ap (λ zs. ys ++ zs) (joined-append lists others) ∙ sym (append_assoc ys (joined lists) (joined others))

  -- the next list and those before it are no longer than all together
  pub joined-fits : (all taken rest : List (List X)) (xs : List X) → taken ++ xs ∷ rest ≡ all → length (joined taken) + length xs ≤ length (joined all)
  joined-fits all taken rest xs e =
      let whole : joined all ≡ joined taken ++ (xs ++ joined rest) = ap joined (sym e) ∙ joined-append taken (xs ∷ rest) in
      omega (arith, ap length whole, length-append (joined taken) (xs ++ joined rest), length-append xs (joined rest))

module _ {X : Type 0} (bucket : X → ℕ) where
  sorted-none : IsSorted bucket (0, replicate 32 []) []
  sorted-none = record {
    counted = refl;
    many = length-replicate {A = List X} 32 [];
    sorted = λ i h. at-none 32 i;
  }

  one-more : (x : X) (i : ℕ) (xs : List X) → bucket x ≡ i → filter (λ y. bucket y == i) (xs ++ x ∷ []) ≡ filter (λ y. bucket y == i) xs ++ x ∷ []
  one-more x i xs e = filter-append (λ y. bucket y == i) xs (x ∷ []) ∙ ap (λ b. filter (λ y. bucket y == i) xs ++ cond b (x ∷ []) []) (eq-eqb (bucket x) i e)

  no-more : (x : X) (i : ℕ) (xs : List X) → bucket x ≢ i → filter (λ y. bucket y == i) (xs ++ x ∷ []) ≡ filter (λ y. bucket y == i) xs
  no-more x i xs n = filter-append (λ y. bucket y == i) xs (x ∷ []) ∙ (ap (λ b. filter (λ y. bucket y == i) xs ++ cond b (x ∷ []) []) (neq-eqb (bucket x) i n) ∙ append-nil (filter (λ y. bucket y == i) xs))

  sorted-added : (v : ℕ × List (List X)) (xs : List X) (x : X) → bucket x < 32 → IsSorted bucket v xs → IsSorted bucket (added (bucket x) x v) (xs ++ x ∷ [])
  sorted-added v xs x h is = record {
    counted = omega (arith, is.counted, length-append xs (x ∷ []));
    many = rw length-set is.many;
    sorted = λ i l. ⊎_elim
        (λ (e : i ≡ bucket x). ap (λ j. get_or (set v.1 (bucket x) (get_or v.1 (bucket x) [] ++ x ∷ [])) j []) e ∙ (get_or-set_same v.1 (bucket x) (get_or v.1 (bucket x) [] ++ x ∷ []) [] (omega (arith, h, is.many)) ∙ (ap (λ ys. ys ++ x ∷ []) (is.sorted (bucket x) h ∙ ap (λ j. filter (λ y. bucket y == j) xs) (sym e)) ∙ sym (one-more x i xs (sym e)))))
        (λ (n : i ≢ bucket x). get_or-set_other v.1 (bucket x) i (get_or v.1 (bucket x) [] ++ x ∷ []) [] n ∙ (is.sorted i l ∙ sym (no-more x i xs (λ (e : bucket x ≡ i). n (sym e)))))
        (cases_eq i (bucket x));
  }

module _ {X Y : Type 0} (bucket : X → ℕ) (see : X → Y) where
  pub has-none : (v : ℕ × List (List X)) → v ≡ (0, replicate 32 []) → Has bucket see v []
  has-none v e = ([], subst (λ u. IsSorted bucket u []) (sym e) (sorted-none bucket), refl)

  pub has-added : (v w : ℕ × List (List X)) (ys : List Y) (x : X) → bucket x < 32 → w ≡ added (bucket x) x v → Has bucket see v ys → Has bucket see w (ys ++ see x ∷ [])
  has-added v w ys x h e has = (has.0 ++ x ∷ [], subst (λ u. IsSorted bucket u (has.0 ++ x ∷ [])) (sym e) (sorted-added bucket v has.0 x h has.1), map-append see has.0 (x ∷ []) ∙ ap (λ zs. zs ++ see x ∷ []) has.2)
