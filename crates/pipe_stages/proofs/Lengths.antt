-- A run without a test tells of how many items there are.
use Rattle.std.proofs.Common.{◌≡◌, ℕ, false, List, [], ◌∷◌, length, map, refl, ap, subst, arith}
use Rattle.par_task.specs.Manners.{Manner, IsRunBy}
use Rattle.par_task.specs.Marking.{marks_of, no_test}
use Rattle.par_task.specs.declared.audit.Leaf.{Leaf}
use Rattle.par_jobs.specs.Runs.{IsRunOver, untested}

same_marks : {X Y : Type 0} (xs : List X) (ys : List Y) → length xs ≡ length ys → marks_of no_test (map untested xs) ≡ marks_of no_test (map untested ys)
same_marks [] [] e = refl
same_marks [] (y ∷ ys) e = absurd (omega (arith, e))
same_marks (x ∷ xs) [] e = absurd (omega (arith, e))
same_marks (x ∷ xs) (y ∷ ys) e = ap (λ l. false ∷ l) (same_marks xs ys (omega (arith, e)))

-- a run without a test is one over any other as many items
pub run_as : {X Y : Type 0} (xs : List X) (ys : List Y) (manner : Manner) (leaves : List Leaf) → length xs ≡ length ys → IsRunOver no_test untested xs manner leaves → IsRunOver no_test untested ys manner leaves
run_as xs ys manner leaves e r =
    subst (λ n. IsRunBy manner no_test (marks_of no_test (map untested ys)) n leaves) e
    (subst (λ ms. IsRunBy manner no_test ms (length xs) leaves) (same_marks xs ys e) r)
