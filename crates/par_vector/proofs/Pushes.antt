-- What the answer of a push says.
use Rattle.std.proofs.Common.{◌≡◌, List, [], ◌∷◌, ◌++◌, length, set, get_or, Bool, true, false, refl, ap, sym, ◌∙◌, subst, ◌≤◌, arith}
use Rattle.std.specs.Prelude.{if◌then◌else◌, is_ok, OnOk, OnErr, Result}
use Rattle.std.specs.declared.result.Result.TheVariants.{Ok, Err}
use Rattle.std.proofs.Math.Seq.{set-append_seam}
use Rattle.std.proofs.lemmas.List.{append-nil}
use Rattle.par_vector.specs.Kids.{HasOneMore}

-- what a push added: the item, or nothing
abbrev pub added : {T : Type 0} → Bool → T → List T
added true x = x ∷ []
added false x = []

pub to_added : {T : Type 0} (b : Bool) (xs ys : List T) (x : T) → ys ≡ (if b then xs ++ x ∷ [] else xs) → ys ≡ xs ++ added b x
to_added true xs ys x e = e
to_added false xs ys x e = e ∙ sym (append-nil xs)

pub of_added : {T : Type 0} (b : Bool) (xs ys : List T) (x : T) → ys ≡ xs ++ added b x → ys ≡ (if b then xs ++ x ∷ [] else xs)
of_added true xs ys x e = e
of_added false xs ys x e = e ∙ append-nil xs

pub kid_more :
    {N T E : Type 0} (items : N → List T) (r : Result (Unit {0}) E) (kids : List N) (empty new : N) (x : T) → items empty ≡ [] → items new ≡ (if is_ok r then items empty ++ x ∷ [] else items empty) →
    OnOk r (HasOneMore items kids x (set (kids ++ empty ∷ []) (length kids) new))
kid_more items (Ok _) kids empty new x none e = record { kid = new; alone = e ∙ ap (λ v. v ++ x ∷ []) none; after = set-append_seam kids empty [] new }
kid_more items (Err _) kids empty new x none e = tt

-- what holds after a push that was answered Ok, and of what was, holds
pub either_way : {X E A : Type 0} (P : X → Type 0) (r : Result (Unit {0}) E) (old new : X) → OnOk r A → OnErr r (new ≡ old) → (A → P new) → P old → P new
either_way P (Ok _) old new ok err f p = f ok
either_way P (Err _) old new ok err f p = subst P (sym err) p

pub few_added : {T : Type 0} (b : Bool) (x : T) → length (added b x) ≤ 1
few_added true x = omega arith
few_added false x = omega arith
