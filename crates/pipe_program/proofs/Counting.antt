-- How many lines a text has.
use Rattle.std.proofs.Common.{ℕ, ◌+◌, ◌≤◌, List, [], ◌∷◌, length, Bool, true, false, ◌==◌, arith}
use Rattle.std.specs.Prelude.{if◌then◌else◌}
use Rattle.std.specs.List.{count_by, slice_split}
use Rattle.std.specs.Str.Lines.{lines, lines_of_parts}
use Rattle.std.proofs.lemmas.List.Splits.{length-slice_split}
use Rattle.std.proofs.lemmas.List.Sums.{count_by-le-length}

at_most_one : (b : Bool) (x : List ℕ) → length (if b then [] else x ∷ []) ≤ 1
at_most_one true x = omega arith
at_most_one false x = omega arith

of_parts : (parts : List (List ℕ)) → length (lines_of_parts parts) ≤ length parts
of_parts [] = omega arith
of_parts (x ∷ []) = at_most_one (length x == 0) x
of_parts (x ∷ y ∷ more) = omega (arith, of_parts (y ∷ more))

-- at most one line more than bytes
pub few_lines : (text : List ℕ) → length (lines text) ≤ length text + 1
few_lines text = omega (arith, of_parts (slice_split (λ b. b == 10) text), length-slice_split (λ b. b == 10) text, count_by-le-length (λ b. b == 10) text)
