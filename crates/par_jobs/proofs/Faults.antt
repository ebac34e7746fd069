-- The first fault of a leaf, and the items that pass, one item more.
use Rattle.std.proofs.Common.{◌≡◌, ℕ, ◌+◌, ◌≤◌, ◌<◌, true, false, Bool, cond, List, [], ◌∷◌, ◌++◌, length, map, get_or, Option, Some, None, refl, ap, sym, ◌∙◌, arith}
use Rattle.std.specs.List.{filter}
use Rattle.std.proofs.lemmas.List.Elements.{filter-append}
use Rattle.par_laws.specs.declared.test.Verdict.{Verdict}
use Rattle.par_laws.specs.declared.test.Verdict.TheVariants.{Pass, Fail, Fault}
use Rattle.par_laws.specs.declared.tried.FaultAt.{FaultAt}
use Rattle.par_laws.specs.Marks.{Clear}
use Rattle.par_task.specs.Marking.{passes}
use Rattle.par_task.specs.Spans.{IsSpan}
use Rattle.par_task.specs.Parts.{between, Sound, IsLeastFault}
use Rattle.par_jobs.specs.Steps.{noted, fails}
use Rattle.par_jobs.specs.Merges.{sound_join, fault_left, IsSought, IsSiftedOf, not_found_by, sifted_by, sifted_shown, kept_if}
use Rattle.par_jobs.proofs.Scanning.{verdict_at}
use Rattle.par_jobs.proofs.Fronts.{between_more, length-between}

-- no fault so far, or the least
abbrev pub IsFaultSoFar : List Verdict → ℕ → ℕ → Option FaultAt → Type 0
IsFaultSoFar vs lo at None = Sound vs lo at
IsFaultSoFar vs lo at (Some f) = IsLeastFault vs lo at f.at f.kind

pub fault_begins : (vs : List Verdict) (lo : ℕ) → IsFaultSoFar vs lo lo None
fault_begins vs lo k a b = absurd (omega arith)

sound_one : (vs : List Verdict) (at : ℕ) (v : Verdict) → get_or vs at Fail ≡ v → ((k : ℕ) → v ≡ Fault k → ⊥) → Sound vs at (at + 1)
sound_one vs at v e n k a b kind f = let i : k ≡ at = omega arith in n kind (sym e ∙ (ap (λ j. get_or vs j Fail) (sym i) ∙ f))

pub fault_step : (vs : List Verdict) (lo at : ℕ) (fault : Option FaultAt) (v : Verdict) → lo ≤ at → get_or vs at Fail ≡ v → IsFaultSoFar vs lo at fault → IsFaultSoFar vs lo (at + 1) (noted fault v at)
fault_step vs lo at (Some f) v h e s = fault_left vs lo at (at + 1) f.at f.kind (omega arith) s
fault_step vs lo at None Pass h e s = sound_join vs lo at (at + 1) s (sound_one vs at Pass e (λ k x. cc))
fault_step vs lo at None Fail h e s = sound_join vs lo at (at + 1) s (sound_one vs at Fail e (λ k x. cc))
fault_step vs lo at None (Fault k) h e s = record { from = h; before = omega arith; fault = e; sound = s }

-- what a search answers where it found no mark
pub not_found_is : (vs : List Verdict) (marks : List Bool) (lo hi : ℕ) (fault : Option FaultAt) → IsFaultSoFar vs lo hi fault → Clear marks lo hi → IsSought vs marks lo hi (not_found_by fault)
not_found_is vs marks lo hi None s c = record { sound = s; clear = c }
not_found_is vs marks lo hi (Some f) s c = record { fault = s; clear = c }

-- two tests that answer alike on the source answer alike on an item of it
pub same_verdict : {X : Type 0} (V W : X → Verdict) (source : List X) → map W source ≡ map V source → (at : ℕ) (x : X) (rest : List X) → IsSpan source at (x ∷ rest) → W x ≡ V x
same_verdict V W source e at x rest s = sym (verdict_at W source (map V source) e at x rest s) ∙ verdict_at V source (map V source) refl at x rest s

-- one item more that is kept or not
pub filter_more : {X : Type 0} (p : X → Bool) (source : List X) (lo at : ℕ) (x : X) (rest : List X) → lo ≤ at → IsSpan source at (x ∷ rest) → filter p (between source lo at) ++ kept_if (p x) x ≡ filter p (between source lo (at + 1))
filter_more p source lo at x rest h s = sym (filter-append p (between source lo at) (x ∷ [])) ∙ ap (filter p) (between_more source lo at x rest h s)

few_if : {X : Type 0} (b : Bool) (x : X) (ys : List X) (n : ℕ) → length ys ≤ n → length (cond b (x ∷ ys) ys) ≤ n + 1
few_if true x ys n h = omega arith
few_if false x ys n h = omega arith

pub filter_few : {X : Type 0} (p : X → Bool) (xs : List X) → length (filter p xs) ≤ length xs
filter_few p [] = omega arith
filter_few p (x ∷ xs) = let h = few_if (p x) x (filter p xs) (length xs) (filter_few p xs) in omega (arith, h)

pub few_filtered : {X : Type 0} (p : X → Bool) (source : List X) (lo at : ℕ) (x : X) (rest : List X) → IsSpan source at (x ∷ rest) → length source ≤ 4194304 → length (filter p (between source lo at)) < 4194304
few_filtered p source lo at x rest s h = omega (arith, filter_few p (between source lo at), length-between source lo at, s.within, h)

-- what a leaf that tests every item answers
pub sifted_is :
    {X A B C D : Type 0} (f : A → C) (g : B → D) (V : X → Verdict) (passing : List X → C → Type 0) (failing : List X → D → Type 0) (source : List X) (lo hi : ℕ) (fault : Option FaultAt) (a : A) (b : B) →
    IsFaultSoFar (map V source) lo hi fault → passing (filter (λ x. passes (V x)) (between source lo hi)) (f a) → failing (filter (λ x. fails (V x)) (between source lo hi)) (g b) →
    IsSiftedOf V passing failing source lo hi (sifted_shown f g (sifted_by fault a b))
sifted_is f g V passing failing source lo hi None a b s p q = record { sound = s; passed = p; failed = q }
sifted_is f g V passing failing source lo hi (Some x) a b s p q = s
