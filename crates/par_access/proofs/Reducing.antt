-- To fold values that are there, from None on, is to join them from the first on.
use Rattle.std.proofs.Common.{◌≡◌, ◌∙◌, List, [], ◌∷◌, map, Option, Some, None, Result, Ok, Err, IfOk, refl, sym}
use Rattle.std.specs.List.{fold, reduce}
use Rattle.std.specs.Option.{option_map}
use Rattle.std.proofs.lemmas.Iterator.Adapters.{option_map_id}
use Rattle.par_laws.specs.Optional.{joined_options}

module _ {X T : Type 0} (join : T → T → T) (f : X → T) where
  fold_some : (a : T) (xs : List X) → fold (joined_options join) (Some a) (map (λ x. Some (f x)) xs) ≡ Some (fold join a (map f xs))
  fold_some a [] = refl
  fold_some a (x ∷ xs) = fold_some (join a (f x)) xs

  pub reduced : (xs : List X) → fold (joined_options join) None (map (λ x. Some (f x)) xs) ≡ reduce join (map f xs)
  reduced [] = refl
  reduced (x ∷ xs) = fold_some (f x) xs

  pub reduced_ok : {U L E : Type 0} (g : U → Option T) (xs : List X) (r : Result (U × L) E) → IfOk r (λ x. g x.0 ≡ fold (joined_options join) None (map (λ x. Some (f x)) xs)) → IfOk r (λ x. g x.0 ≡ reduce join (map f xs))
  reduced_ok g xs (Ok x) h = h ∙ reduced xs
  reduced_ok g xs (Err e) h = tt

  pub reduced_itself : {L E : Type 0} (xs : List X) (r : Result (Option T × L) E) → IfOk r (λ x. option_map (λ y. y) x.0 ≡ fold (joined_options join) None (map (λ x. Some (f x)) xs)) → IfOk r (λ x. x.0 ≡ reduce join (map f xs))
  reduced_itself xs (Ok x) h = sym (option_map_id x.0) ∙ (h ∙ reduced xs)
  reduced_itself xs (Err e) h = tt
