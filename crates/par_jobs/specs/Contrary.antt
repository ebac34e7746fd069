-- Where a run of items that pass ends.
use Rattle.std.proofs.Common.{◌≡◌, ℕ, ◌+◌, cond, List, [], ◌∷◌, map, refl, arith}
use Rattle.std.specs.List.{prefix_len}
use Rattle.par_laws.specs.Marks.{stop}
use Rattle.par_laws.specs.Verdict.{contrary}
use Rattle.par_laws.specs.declared.test.Verdict.{Verdict}
use Rattle.par_laws.specs.declared.test.Verdict.TheVariants.{Pass, Fail, Fault}
use Rattle.par_task.specs.Marking.{low_flag, marks_of, passes}

one_prefix : (v : Verdict) (vs : List Verdict) (n : ℕ) → stop (marks_of low_flag vs) ≡ n → stop (marks_of low_flag (contrary v ∷ vs)) ≡ cond (passes v) (1 + n) 0
one_prefix Pass vs n e = omega (arith, e)
one_prefix Fail vs n e = refl
one_prefix (Fault kind) vs n e = refl

-- the contrary test has its first mark after as many items as pass in a row
pub contrary_stop : {X : Type 0} (verdict : X → Verdict) (xs : List X) → stop (marks_of low_flag (map (λ x. contrary (verdict x)) xs)) ≡ prefix_len (λ x. passes (verdict x)) xs
contrary_stop verdict [] = refl
contrary_stop verdict (x ∷ xs) = one_prefix (verdict x) (map (λ y. contrary (verdict y)) xs) (prefix_len (λ y. passes (verdict y)) xs) (contrary_stop verdict xs)
