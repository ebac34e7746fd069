-- Folds in parts.
use Rattle.std.proofs.Common.{◌≡◌, List, [], ◌∷◌, ◌++◌, fold, refl, ap, sym, ◌∙◌}
use Rattle.std.proofs.lemmas.List.Sums.{fold-append}

module _ {X A : Type 0} (joined : X → X → X) (gathered : X → A → X) (adds : (a b : X) (x : A) → gathered (joined a b) x ≡ joined a (gathered b x)) where
  -- to gather into a joined value is to gather into its second part
  pub fold-joined : (a b : X) (xs : List A) → fold gathered (joined a b) xs ≡ joined a (fold gathered b xs)
  fold-joined a b [] = refl
  fold-joined a b (x ∷ xs) = ap (λ c. fold gathered c xs) (adds a b x) ∙ fold-joined a (gathered b x) xs

  -- a fold of two lists, one after the other, is their folds joined: the unit's law is asked of the first fold alone
  pub fold-two_lists : (unit : X) (xs ys : List A) → joined (fold gathered unit xs) unit ≡ fold gathered unit xs → fold gathered unit (xs ++ ys) ≡ joined (fold gathered unit xs) (fold gathered unit ys)
  fold-two_lists unit xs ys unit_second =
      fold-append gathered unit xs ys ∙ ap (λ c. fold gathered c ys) (sym unit_second)
      ∙ fold-joined (fold gathered unit xs) unit ys
