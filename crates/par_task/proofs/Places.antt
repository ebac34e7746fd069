-- A list of options, in which the values stand first.
use Rattle.std.proofs.Common.{◌≡◌, ℕ, ◌+◌, ◌<◌, ◌≤◌, List, [], ◌∷◌, ◌++◌, length, Option, Some, None, MatchOption, refl, ap, sym, ◌∙◌, arith}
use Rattle.par_task.specs.Tails.{somes, IsPacked}

module _ {X : Type 0} where
  -- where some place is empty the last one is
  pub last_empty : (ts : List (Option X)) (o : Option X) → IsPacked (ts ++ o ∷ []) → length (somes (ts ++ o ∷ [])) < length ts + 1 → (somes ts ≡ somes (ts ++ o ∷ [])) × IsPacked ts
  last_empty [] None p h = (refl, tt)
  last_empty [] (Some x) p h = absurd (omega (arith, h))
  last_empty (None ∷ ts) o p h = let r = last_empty ts o p.1 (omega (arith, ap length p.0)) in (r.0, (r.0 ∙ p.0, r.1))
  last_empty (Some x ∷ ts) o p h = let r = last_empty ts o p (omega (arith, h)) in (ap (λ v. x ∷ v) r.0, r.1)

  -- one empty place more
  pub one_more : (ts : List (Option X)) → somes (ts ++ None ∷ []) ≡ somes ts
  one_more [] = refl
  one_more (None ∷ ts) = one_more ts
  one_more (Some x ∷ ts) = ap (λ v. x ∷ v) (one_more ts)

  pub packed_more : (ts : List (Option X)) → IsPacked ts → IsPacked (ts ++ None ∷ [])
  packed_more [] p = (refl, tt)
  packed_more (None ∷ ts) p = (one_more ts ∙ p.0, packed_more ts p.1)
  packed_more (Some x ∷ ts) p = packed_more ts p

  pub packed_rest : (o : Option X) (ts : List (Option X)) → IsPacked (o ∷ ts) → IsPacked (ts ++ None ∷ [])
  packed_rest None ts p = packed_more ts p.1
  packed_rest (Some x) ts p = packed_more ts p

  pub first_out :
      (o : Option X) (ts : List (Option X)) → IsPacked (o ∷ ts) →
      MatchOption o ((somes (o ∷ ts) ≡ []) × (somes (ts ++ None ∷ []) ≡ [])) (λ x. somes (o ∷ ts) ≡ x ∷ somes (ts ++ None ∷ []))
  first_out None ts p = (p.0, one_more ts ∙ p.0)
  first_out (Some x) ts p = ap (λ v. x ∷ v) (sym (one_more ts))
