-- Lemmas on parts of a list by place.
use Rattle.std.proofs.Common.{◌≡◌, ℕ, zero, suc, ◌+◌, ◌-◌, Bool, true, false, cond, List, [], ◌∷◌, take, drop, slice_get, IfSome, refl, ap, ◌∙◌, arith}
use Rattle.std.proofs.Math.Numerals.{one-add}
use Rattle.std.specs.List.{prefix_len}

-- the step of the next lemma, by what the test gives at the first item
stops_at : {X : Type 0} (p : X → Bool) (x : X) (xs : List X) (b : Bool) → p x ≡ b → IfSome (slice_get (drop (prefix_len p xs) xs) 0) (λ y. p y ≡ false) → IfSome (slice_get (drop (cond b (1 + prefix_len p xs) 0) (x ∷ xs)) 0) (λ y. p y ≡ false)
stops_at p x xs true here later = rw one-add later
stops_at p x xs false here later = here

-- the first item after those that pass fails the test
pub first_after_fails : {X : Type 0} (p : X → Bool) (xs : List X) → IfSome (slice_get (drop (prefix_len p xs) xs) 0) (λ y. p y ≡ false)
first_after_fails p [] = tt
first_after_fails p (x ∷ xs) = stops_at p x xs (p x) refl (first_after_fails p xs)

take-nil : {X : Type 0} (n : ℕ) → take n (let none : List X = [] in none) ≡ []
take-nil zero = refl
take-nil (suc n) = refl

-- to take what is left before b after a were dropped is to drop a of those before b
pub take-drop : {X : Type 0} (a b : ℕ) (xs : List X) → take (b - a) (drop a xs) ≡ drop a (take b xs)
take-drop zero b xs = ap (λ n. take n xs) (omega arith)
take-drop (suc a) zero xs = let none : 0 - suc a ≡ 0 = omega arith in ap (λ n. take n (drop (suc a) xs)) none
take-drop (suc a) (suc b) [] = take-nil (suc b - suc a)
take-drop (suc a) (suc b) (x ∷ xs) = let left : suc b - suc a ≡ b - a = omega arith in ap (λ n. take n (drop a xs)) left ∙ take-drop a b xs
