-- Lemmas on the keys of a set.
use Rattle.std.proofs.Common.{◌≡◌, ◌≢◌, ℕ, zero, suc, ◌*◌, ◌%◌, ◌/◌, ◌^◌, ◌<◌, Bool, true, false, ◌||◌, true≢false, cond, List, [], ◌∷◌, ◌++◌, length, map, get_or, refl, ap, sym, ◌∙◌, arith, eq-eqb, ⊎_elim, subst}
use Rattle.std.specs.Prelude.{◌==◌}
use Rattle.std.specs.List.{IsDistinct, filter, list_any}
use Rattle.std.specs.Cmp.{IsEquivalence}
use Rattle.std.proofs.Math.Nat.{mod-lt}
use Rattle.std.proofs.lemmas.Nat.{xor_of_32}
use Rattle.std.proofs.lemmas.Bool.{cases_eq}
use Rattle.std.proofs.lemmas.List.Folds.{list_any-append}
use Rattle.std.proofs.lemmas.Map.Steps.{list_any_congr}
use Rattle.par_laws.specs.Hash.{mixed}
use Rattle.par_index.specs.Entries.{joined}
use Rattle.par_index.proofs.Places.{or_assoc, or_false}
use Rattle.par_flat.specs.Rooms.{bucket_of_hash}
use Rattle.par_flat.specs.Keys.{insert_key, insert_keys}
use Rattle.par_flat.proofs.Unions.{distinct-inserted}
use Rattle.par_buckets.specs.Held.{IsSorted}
use Rattle.par_buckets.specs.Values.{Has, IsSetOf}
use Rattle.par_buckets.proofs.Values.{not_so, neq-eqb}

-- a flat bucket is one of 32
pub flat_few : (hash : ℕ) → bucket_of_hash hash < 32
unfolding mixed
flat_few hash =
    let small : hash * 2654435761 % 2 ^ 32 < 2 ^ 32 = mod-lt (hash * 2654435761) (omega arith) in
    let all : mixed hash < 2 ^ 32 = xor_of_32 (hash * 2654435761 % 2 ^ 32) (hash * 2654435761 % 2 ^ 32 / 2 ^ 15) small (omega (arith, small)) in
    omega (arith, all)

absorb : (a b : Bool) → (b ≡ true → a ≡ true) → a ≡ (a || b)
absorb true b h = refl
absorb false true h = absurd (true≢false (sym (h refl)))
absorb false false h = refl

module _ {K : Type 0} where
  kept : (t : K → Bool) (b c : Bool) (x : K) (ys zs : List K) → t x ≡ b → (b ≡ true → c ≡ true) → list_any t ys ≡ list_any t zs → list_any t (cond c (x ∷ ys) ys) ≡ (b || list_any t zs)
  kept t true true x ys zs e h s = rw e refl
  kept t true false x ys zs e h s = absurd (true≢false (sym (h refl)))
  kept t false true x ys zs e h s = rw (e, s) refl
  kept t false false x ys zs e h s = s

  none-any : (t : K → Bool) (lists : List (List K)) → ((i : ℕ) → i < length lists → list_any t (get_or lists i []) ≡ false) → list_any t (joined lists) ≡ false
  none-any t [] h = refl
  none-any t (xs ∷ lists) h = list_any-append t xs (joined lists) ∙ (ap (λ a. a || list_any t (joined lists)) (h zero (omega arith)) ∙ none-any t lists (λ i l. h (suc i) (omega (arith, l))))

  -- where one list alone may have the key
  pick-any : (t : K → Bool) (lists : List (List K)) (b : ℕ) (r : Bool) → b < length lists → ((i : ℕ) → i < length lists → i ≢ b → list_any t (get_or lists i []) ≡ false) → list_any t (get_or lists b []) ≡ r → list_any t (joined lists) ≡ r
  pick-any t [] b r l h e = absurd (omega (arith, l))
  pick-any t (xs ∷ lists) zero r l h e =
      list_any-append t xs (joined lists) ∙ (ap (λ a. a || list_any t (joined lists)) e ∙ (ap (λ a. r || a) (none-any t lists (λ i m. h (suc i) (omega (arith, m)) (λ (z : suc i ≡ zero). absurd (omega (arith, z))))) ∙ or_false r))
  pick-any t (xs ∷ lists) (suc b) r l h e =
      list_any-append t xs (joined lists) ∙ (ap (λ a. a || list_any t (joined lists)) (h zero (omega arith) (λ (z : zero ≡ suc b). absurd (omega (arith, z)))) ∙ pick-any t lists b r (omega (arith, l)) (λ i m n. h (suc i) (omega (arith, m)) (λ (z : suc i ≡ suc b). n (omega (arith, z)))) e)

module _ {K : Type 0} (eq : K → K → Bool) (o : IsEquivalence eq) where
  any-insert : (k x : K) (b : Bool) (ks : List K) → list_any (eq x) ks ≡ b → list_any (eq k) (cond b ks (ks ++ x ∷ [])) ≡ (list_any (eq k) ks || eq k x)
  any-insert k x true ks e = absorb (list_any (eq k) ks) (eq k x) (λ t. list_any_congr o k x ks t ∙ e)
  any-insert k x false ks e = list_any-append (eq k) ks (x ∷ []) ∙ ap (λ a. list_any (eq k) ks || a) (or_false (eq k x))

  any-insert_keys : (k : K) (ks xs : List K) → list_any (eq k) (insert_keys eq ks xs) ≡ (list_any (eq k) ks || list_any (eq k) xs)
  any-insert_keys k ks [] = sym (or_false (list_any (eq k) ks))
  any-insert_keys k ks (x ∷ xs) =
      any-insert_keys k (insert_key eq ks x) xs ∙ (ap (λ a. a || list_any (eq k) xs) (any-insert k x (list_any (eq x) ks) ks refl) ∙ sym (or_assoc (list_any (eq k) ks) (eq k x) (list_any (eq k) xs)))

  module _ (bucket : K → ℕ) (alike : (x y : K) → eq x y ≡ true → bucket x ≡ bucket y) (few : (k : K) → bucket k < 32) where
    own-any : (k : K) (xs : List K) → list_any (eq k) (filter (λ x. bucket x == bucket k) xs) ≡ list_any (eq k) xs
    own-any k [] = refl
    own-any k (x ∷ xs) = kept (eq k) (eq k x) (bucket x == bucket k) x (filter (λ y. bucket y == bucket k) xs) xs refl (λ t. eq-eqb (bucket x) (bucket k) (sym (alike k x t))) (own-any k xs)

    other-any : (k : K) (i : ℕ) (xs : List K) → i ≢ bucket k → list_any (eq k) (filter (λ x. bucket x == i) xs) ≡ false
    other-any k i [] n = refl
    other-any k i (x ∷ xs) n = ⊎_elim
        (λ (s : bucket x ≡ i). rw (eq-eqb (bucket x) i s, not_so (eq k x) (λ t. absurd (n (sym s ∙ sym (alike k x t))))) (other-any k i xs n))
        (λ (m : bucket x ≢ i). rw (neq-eqb (bucket x) i m) (other-any k i xs n))
        (cases_eq (bucket x) i)

    any-sorted : (v : ℕ × List (List K)) (xs : List K) (k : K) → IsSorted bucket v xs → list_any (eq k) (joined v.1) ≡ list_any (eq k) xs
    any-sorted v xs k is = pick-any (eq k) v.1 (bucket k) (list_any (eq k) xs) (omega (arith, few k, is.many))
        (λ i l n. ap (list_any (eq k)) (is.sorted i (omega (arith, l, is.many))) ∙ other-any k i xs n)
        (ap (list_any (eq k)) (is.sorted (bucket k) (few k)) ∙ own-any k xs)

    module _ {S : Type 0} (same : S → S → Bool) (seek : K → S) (told : (x y : K) → eq x y ≡ same (seek x) (seek y)) where
      any-shown : (k : K) (xs : List K) → list_any (eq k) xs ≡ list_any (same (seek k)) (map seek xs)
      any-shown k [] = refl
      any-shown k (x ∷ xs) = ap (λ a. a || list_any (eq k) xs) (told k x) ∙ ap (λ a. same (seek k) (seek x) || a) (any-shown k xs)

      pub is_set_of : (out : List K) (v : ℕ × List (List K)) (ks : List S) → out ≡ insert_keys eq [] (joined v.1) → Has bucket seek v ks → IsSetOf eq same seek out ks
      is_set_of out v ks e h = record {
        distinct = subst (IsDistinct eq) (sym e) (distinct-inserted eq o (joined v.1));
        members = λ k. ap (list_any (eq k)) e ∙ (any-insert_keys k [] (joined v.1) ∙ (any-sorted v h.0 k h.1 ∙ (any-shown k h.0 ∙ ap (list_any (same (seek k))) h.2)));
      }
