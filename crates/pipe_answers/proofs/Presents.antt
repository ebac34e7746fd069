-- Values that are there, folded from None on.
use Rattle.std.proofs.Common.{◌≡◌, ◌∙◌, ℕ, List, [], ◌∷◌, ◌++◌, map, Option, Some, None, refl, sym, ap, subst, append_assoc, append-nil}
use Rattle.std.specs.Prelude.{unwrap_or}
use Rattle.std.specs.List.{flat_map, fold, reduce}
use Rattle.std.specs.Option.{option_map}
use Rattle.std.proofs.lemmas.Iterator.Adapters.{option_map_id}
use Rattle.par_laws.specs.Guarded.{made_map}
use Rattle.par_laws.specs.Optional.{joined_options, separated}
use Rattle.par_laws.specs.declared.guard.Made.{Made}
use Rattle.par_laws.specs.declared.guard.Made.TheVariants as made
use Rattle.par_laws.specs.declared.test.Verdict.{Verdict}
use Rattle.par_jobs.specs.Faults.{least_fault}
use Rattle.pipe_stages.specs.declared.stop.StepStop.{StepStop}
use Rattle.pipe_answers.specs.Lasts.{StopsBy, separated_by}
use Rattle.pipe_answers.specs.Makes.{made_fault, made_values, made_verdict}

module _ {X : Type 0} where
  some_verdict : (m : Made X) → made_verdict (made_map Some m) ≡ made_verdict m
  some_verdict (made.Value x) = refl
  some_verdict (made.Fault kind) = refl

module _ {R X : Type 0} (f : R → Made X) where
  some_verdicts : (rs : List R) → map made_verdict (map (λ r. made_map Some (f r)) rs) ≡ map made_verdict (map f rs)
  some_verdicts [] = refl
  some_verdicts (r ∷ rs) = λ i. some_verdict (f r) i ∷ some_verdicts rs i

  pub some_fault : (rs : List R) → made_fault (map (λ r. made_map Some (f r)) rs) ≡ made_fault (map f rs)
  some_fault rs = ap least_fault (some_verdicts rs)

  one_more : (m : Made X) (ms : List (Made (Option X))) (ns : List (Made X)) → made_values ms ≡ map Some (made_values ns) → made_values (made_map Some m ∷ ms) ≡ map Some (made_values (m ∷ ns))
  one_more (made.Value x) ms ns e = ap (λ (l : List (Option X)). Some x ∷ l) e
  one_more (made.Fault kind) ms ns e = e

  pub some_values : (rs : List R) → made_values (map (λ r. made_map Some (f r)) rs) ≡ map Some (made_values (map f rs))
  some_values [] = refl
  some_values (r ∷ rs) = one_more (f r) (map (λ r. made_map Some (f r)) rs) (map f rs) (some_values rs)

module _ {X : Type 0} (join : X → X → X) where
  fold_some : (a : X) (xs : List X) → fold (joined_options join) (Some a) (map Some xs) ≡ Some (fold join a xs)
  fold_some a [] = refl
  fold_some a (x ∷ xs) = fold_some (join a x) xs

  reduced : (xs : List X) → fold (joined_options join) None (map Some xs) ≡ reduce join xs
  reduced [] = refl
  reduced (x ∷ xs) = fold_some x xs

  -- the fold of what is there is what the values are reduced to
  pub reduced_made : {R : Type 0} (f : R → Made X) (rs : List R) → fold (joined_options join) None (made_values (map (λ r. made_map Some (f r)) rs)) ≡ reduce join (made_values (map f rs))
  reduced_made f rs = ap (fold (joined_options join) None) (some_values f rs) ∙ reduced (made_values (map f rs))

module _ (sep : List ℕ) where
  fold_separated : (t : List ℕ) (ts : List (List ℕ)) → fold (separated sep) t ts ≡ t ++ flat_map (λ u. sep ++ u) ts
  fold_separated t [] = sym (append-nil t)
  fold_separated t (u ∷ us) = fold_separated (t ++ (sep ++ u)) us ∙ append_assoc t (sep ++ u) (flat_map (λ v. sep ++ v) us)

  reduce_separated : (ts : List (List ℕ)) → unwrap_or (reduce (separated sep) ts) [] ≡ separated_by sep ts
  reduce_separated [] = refl
  reduce_separated (t ∷ ts) = fold_separated t ts

  pub separated_made : {R : Type 0} (f : R → Made (List ℕ)) (rs : List R) → unwrap_or (fold (joined_options (separated sep)) None (made_values (map (λ r. made_map Some (f r)) rs))) [] ≡ separated_by sep (made_values (map f rs))
  separated_made f rs = ap (λ o. unwrap_or o []) (reduced_made (separated sep) f rs) ∙ reduce_separated (made_values (map f rs))

-- what a fold of values that are there says of the values, where a mapper is another one
module _ {R X : Type 0} (f h : R → Made X) (same : f ≡ h) (rs : List R) where
  pub present_stop : (stop : StepStop) → StopsBy (made_fault (map (λ r. made_map Some (f r)) rs)) stop → StopsBy (made_fault (map h rs)) stop
  present_stop stop s = subst (λ k. StopsBy (made_fault (map k rs)) stop) same (subst (λ o. StopsBy o stop) (some_fault f rs) s)

  pub present_fine : made_fault (map (λ r. made_map Some (f r)) rs) ≡ None → made_fault (map h rs) ≡ None
  present_fine fine = subst (λ k. made_fault (map k rs) ≡ None) same (sym (some_fault f rs) ∙ fine)

  pub present_value : (join : X → X → X) (seen : Option X) → option_map (λ x. x) seen ≡ fold (joined_options join) None (made_values (map (λ r. made_map Some (f r)) rs)) → seen ≡ reduce join (made_values (map h rs))
  present_value join seen value = subst (λ k. seen ≡ reduce join (made_values (map k rs))) same (sym (option_map_id seen) ∙ (value ∙ reduced_made join f rs))

module _ {R : Type 0} (f h : R → Made (List ℕ)) (same : f ≡ h) (rs : List R) where
  pub present_text : (sep : List ℕ) (seen : Option (List ℕ)) → option_map (λ x. x) seen ≡ fold (joined_options (separated sep)) None (made_values (map (λ r. made_map Some (f r)) rs)) → unwrap_or seen [] ≡ separated_by sep (made_values (map h rs))
  present_text sep seen value =
      subst (λ k. unwrap_or seen [] ≡ separated_by sep (made_values (map k rs))) same
      (ap (λ o. unwrap_or o []) (sym (option_map_id seen) ∙ value) ∙ separated_made sep f rs)
