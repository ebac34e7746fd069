-- What a search found, and the list functions that it decides.
use Rattle.std.proofs.Common.{◌≡◌, ◌∙◌, ◌||◌, ◌&&◌, List, [], ◌∷◌, map, Bool, true, false, not, Some, None, refl, ap, sym}
use Rattle.std.specs.List.{list_any, list_all}
use Rattle.std.proofs.lemmas.Bool.{false≢true}
use Rattle.par_laws.specs.declared.test.Verdict.{Verdict}
use Rattle.par_laws.specs.declared.test.Verdict.TheVariants as verdict
use Rattle.par_laws.specs.declared.tried.Tried.TheVariants.{Got}
use Rattle.par_laws.specs.Verdict.{contrary}
use Rattle.par_task.specs.Marking.{abort_flag, passes}
use Rattle.par_jobs.specs.declared.search.Sought.{Sought}
use Rattle.par_jobs.specs.declared.search.Sought.TheVariants.{Found, Fell, Nowhere}
use Rattle.par_jobs.specs.Faults.{faults, fault_of, tried}
use Rattle.par_jobs.specs.Whole.{IsSoughtAll}
use Rattle.par_access.specs.Found.{IsFound}
use Rattle.par_access.specs.Parts.{tried_by, place_by}

-- the answer to a question of truth, where a mark answers yes and its want no
pub sought_is :
    (vs : List Verdict) (s : Sought) → IsSoughtAll vs s → (said answer : Bool) → (list_any passes vs ≡ true → answer ≡ said) → (list_any passes vs ≡ false → list_any faults vs ≡ false → answer ≡ not said) →
    tried_by s said ≡ tried (fault_of abort_flag vs) answer
sought_is vs (Found i) h said answer p q = ap Got (sym (p h.0)) ∙ ap (λ f. tried f answer) (sym h.1)
sought_is vs (Fell f) h said answer p q = ap (λ g. tried g answer) (sym h.1)
sought_is vs Nowhere h said answer p q = ap Got (sym (q h.0 h.2)) ∙ ap (λ g. tried g answer) (sym h.1)

-- what `find` answers by what was found
pub found_is : (vs : List Verdict) (s : Sought) → IsSoughtAll vs s → IsFound vs (place_by s)
found_is vs (Found i) h = record { found = Some i; place = h.2; answer_is = ap (λ f. tried f (Some i)) (sym h.1) }
found_is vs (Fell f) h = record { found = None; place = h.0; answer_is = ap (λ g. tried g None) (sym h.1) }
found_is vs Nowhere h = record { found = None; place = h.0; answer_is = ap (λ g. tried g None) (sym h.1) }

module _ {X : Type 0} (V : X → Verdict) where
  any_is : (xs : List X) → list_any (λ x. passes (V x)) xs ≡ list_any passes (map V xs)
  any_is [] = refl
  any_is (x ∷ xs) = ap (λ b. passes (V x) || b) (any_is xs)

  one_fails : (v : Verdict) (a b : Bool) → (b ≡ true → a ≡ false) → (passes (contrary v) || b) ≡ true → (passes v && a) ≡ false
  one_fails verdict.Pass a b h e = h e
  one_fails verdict.Fail a b h e = refl
  one_fails (verdict.Fault kind) a b h e = refl

  not_all : (xs : List X) → list_any passes (map (λ x. contrary (V x)) xs) ≡ true → list_all (λ x. passes (V x)) xs ≡ false
  not_all [] e = absurd (false≢true e)
  not_all (x ∷ xs) e = one_fails (V x) (list_all (λ x. passes (V x)) xs) (list_any passes (map (λ x. contrary (V x)) xs)) (not_all xs) e

  one_passes : (v : Verdict) (a b d : Bool) → (b ≡ false → d ≡ false → a ≡ true) → (passes (contrary v) || b) ≡ false → (faults (contrary v) || d) ≡ false → (passes v && a) ≡ true
  one_passes verdict.Pass a b d h e s = h e s
  one_passes verdict.Fail a b d h e s = cc
  one_passes (verdict.Fault kind) a b d h e s = cc

  all_pass : (xs : List X) → list_any passes (map (λ x. contrary (V x)) xs) ≡ false → list_any faults (map (λ x. contrary (V x)) xs) ≡ false → list_all (λ x. passes (V x)) xs ≡ true
  all_pass [] e s = refl
  all_pass (x ∷ xs) e s =
      one_passes (V x) (list_all (λ x. passes (V x)) xs) (list_any passes (map (λ x. contrary (V x)) xs)) (list_any faults (map (λ x. contrary (V x)) xs)) (all_pass xs) e s

  pub exists_is : (xs : List X) (s : Sought) → IsSoughtAll (map V xs) s → tried_by s true ≡ tried (fault_of abort_flag (map V xs)) (list_any (λ x. passes (V x)) xs)
  exists_is xs s h = sought_is (map V xs) s h true (list_any (λ x. passes (V x)) xs) (λ e. any_is xs ∙ e) (λ e _. any_is xs ∙ e)

  pub forall_is :
      (xs : List X) (s : Sought) → IsSoughtAll (map (λ x. contrary (V x)) xs) s →
      tried_by s false ≡ tried (fault_of abort_flag (map (λ x. contrary (V x)) xs)) (list_all (λ x. passes (V x)) xs)
  forall_is xs s h = sought_is (map (λ x. contrary (V x)) xs) s h false (list_all (λ x. passes (V x)) xs) (not_all xs) (all_pass xs)
