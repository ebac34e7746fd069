-- A row that was found by its index.
use Rattle.std.proofs.Common.{◌≡◌, ◌∙◌, ℕ, zero, suc, ◌<◌, List, [], ◌∷◌, length, map, get_or, false, true, Option, Some, None, refl, ap, sym, subst, arith}
use Rattle.std.specs.Prelude.{Bool, ◌||◌, slice_get}
use Rattle.std.specs.List.{list_any}
use Rattle.par_laws.specs.declared.test.Verdict.{Verdict}
use Rattle.par_rows.specs.declared.row.Row.{Row}
use Rattle.par_task.specs.Marking.{abort_flag, is_mark, marks_of, passes}
use Rattle.par_access.specs.Found.{IsPlaceFound}
use Rattle.pipe_answers.specs.Lasts.{IsFoundRow}
use Rattle.pipe_answers.specs.Texts.{placed_row}

-- an item of a list that was mapped passes where what it is made of does
any_mapped : {R S : Type 0} (p : S → Bool) (f : R → S) (xs : List R) → list_any p (map f xs) ≡ list_any (λ x. p (f x)) xs
any_mapped p f [] = refl
any_mapped p f (x ∷ xs) = ap (λ b. p (f x) || b) (any_mapped p f xs)

module _ (V : Row → Verdict) where
  -- there is a row at a marked index, and it passes
  marked_row : (rows : List Row) (i : ℕ) → get_or (map (is_mark abort_flag) (map V rows)) i false ≡ true → (row : Row) × (slice_get rows i ≡ Some row) × (i < length rows) × (get_or rows i row ≡ row) × (passes (V row) ≡ true)
  marked_row [] i p = cc
  marked_row (r ∷ rs) zero p = (r, refl, omega arith, refl, p)
  marked_row (r ∷ rs) (suc i) p = let h = marked_row rs i p in (h.0, h.1, omega (arith, h.2), h.3, h.4)

  -- what was found is a row that passes, or none where none does
  pub placed_so : (rows : List Row) (place : Option ℕ) → IsPlaceFound (map V rows) place → IsFoundRow (λ x. passes (V x)) rows (placed_row rows place)
  placed_so rows None p = sym (any_mapped passes V rows) ∙ p
  placed_so rows (Some i) p = let h = marked_row rows i p in subst (IsFoundRow (λ x. passes (V x)) rows) (sym h.1) ((i, h.2, h.3), h.4)
