-- A count of the items that pass.
use Rattle.std.proofs.Common.{◌≡◌, ◌∙◌, ℕ, List, length, map, ap, sym}
use Rattle.std.specs.List.{count_by}
use Rattle.std.proofs.lemmas.List.Sums.{length-filter}
use Rattle.par_laws.specs.declared.test.Verdict.{Verdict}
use Rattle.par_laws.specs.declared.tried.Tried.TheVariants.{Got}
use Rattle.par_task.specs.Marking.{no_flag, passes}
use Rattle.par_jobs.specs.Faults.{fault_of, tried}
use Rattle.par_jobs.specs.Merges.{sifted_shown}
use Rattle.par_jobs.specs.Whole.{IsSiftedAll}
use Rattle.par_jobs.specs.declared.sift.Sifted.{Sifted}
use Rattle.par_jobs.specs.declared.sift.Sifted.TheVariants as sifted
use Rattle.par_jobs.specs.declared.stock.Nothing.{Nothing}
use Rattle.par_access.specs.Parts.{counted_by}

module _ {X : Type 0} (V : X → Verdict) where
  pub count_is :
      (xs : List X) (s : Sifted ℕ Nothing) →
      IsSiftedAll V (λ (ys : List X) (n : ℕ). n ≡ length ys) (λ (_ : List X) (_ : Nothing). Unit {0}) xs (sifted_shown (λ (x : ℕ). x) (λ (x : Nothing). x) s) →
      counted_by s ≡ tried (fault_of no_flag (map V xs)) (count_by (λ x. passes (V x)) xs)
  count_is xs (sifted.Got n rest) h = ap Got (h.1 ∙ length-filter (λ x. passes (V x)) xs) ∙ ap (λ g. tried g (count_by (λ x. passes (V x)) xs)) (sym h.0)
  count_is xs (sifted.Fell f) h = ap (λ g. tried g (count_by (λ x. passes (V x)) xs)) (sym h)
