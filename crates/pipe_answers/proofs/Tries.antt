-- What an answer says that may be a fault.
use Rattle.std.proofs.Common.{◌≡◌, ◌∙◌, Option, Some, None, refl, ap, sym, subst}
use Rattle.par_laws.specs.declared.tried.FaultAt.{FaultAt}
use Rattle.par_laws.specs.declared.tried.Tried.{Tried}
use Rattle.par_laws.specs.declared.tried.Tried.TheVariants.{Got, Fault}
use Rattle.par_jobs.specs.Faults.{IsTried, tried}

module _ {T : Type 0} where
  -- an answer is the one that is wanted, and no fault stands in its place
  pub got_so : (fault : Option FaultAt) (value seen : T) (t : Tried T) → t ≡ tried fault value → t ≡ Got seen → (fault ≡ None) × (seen ≡ value)
  got_so None value seen t p q = (refl, cc)
  got_so (Some f) value seen t p q = (cc, cc)

  -- a fault is the one that is wanted
  pub fault_so : (fault : Option FaultAt) (value : T) (f : FaultAt) (t : Tried T) → t ≡ tried fault value → t ≡ Fault f → fault ≡ Some f
  fault_so None value f t p q = cc
  fault_so (Some g) value f t p q = cc

-- what holds of two things holds of what they equal
pub over : {A B : Type 0} (P : A → B → Type 0) (a a' : A) (b b' : B) → a ≡ a' → b ≡ b' → P a b → P a' b'
over P a a' b b' p q h = subst (λ x. P x b') p (subst (P a) q h)

module _ {T : Type 0} (holds : T → Type 0) where
  -- an answer is as it should be, and no fault stands in its place
  pub got_holds : (fault : Option FaultAt) (seen : T) (t : Tried T) → IsTried fault holds t → t ≡ Got seen → (fault ≡ None) × holds seen
  got_holds None seen (Got x) p q = let e : x ≡ seen = cc in (refl, subst holds e p)
  got_holds None seen (Fault f) p q = absurd p
  got_holds (Some f) seen (Got x) p q = absurd p
  got_holds (Some f) seen (Fault g) p q = absurd (cc)

  -- a fault is the one that is wanted
  pub fault_holds : (fault : Option FaultAt) (f : FaultAt) (t : Tried T) → IsTried fault holds t → t ≡ Fault f → fault ≡ Some f
  fault_holds None f (Got x) p q = cc
  fault_holds None f (Fault g) p q = absurd p
  fault_holds (Some g) f (Got x) p q = absurd p
  fault_holds (Some g) f (Fault h) p q = let e : h ≡ f = cc in ap Some (sym p ∙ e)
