-- The columns after one step more.
use Rattle.std.proofs.Common.{◌≡◌, ◌<◌, ◌+◌, ◌∷◌, ◌++◌, ◌∙◌, sym, refl, ap, ℕ, suc, List, [], length, map, take, get_or, arith}
use Rattle.std.proofs.Math.Seq.{take-suc}
use Rattle.std.proofs.lemmas.List.{map-append}
use Rattle.par_rows.specs.declared.schema.Column.{Column}
use Rattle.pipe_steps.specs.declared.step.Step.{Step}
use Rattle.pipe_steps.specs.Said.{Middle, middle_view}
use Rattle.pipe_checks.specs.Columns.{step_columns}
use Rattle.pipe_program.specs.Plans.{columns_on}

columns_on_last : (cs : List Column) (ms : List Middle) (m : Middle) → columns_on cs (ms ++ m ∷ []) ≡ step_columns (columns_on cs ms) m
columns_on_last cs [] m = refl
columns_on_last cs (x ∷ ms) m = columns_on_last (step_columns cs x) ms m

pub columns_more : (cs old now new : List Column) (steps : List Step) (i : ℕ) (s : Step) → i < length steps → s ≡ get_or steps i s → old ≡ columns_on cs (map middle_view (take i steps)) → now ≡ old → new ≡ step_columns now (middle_view s) → new ≡ columns_on cs (map middle_view (take (i + 1) steps))
columns_more cs old now new steps i s lt is before same after =
    let one : i + 1 ≡ suc i = omega arith in
    let more : map middle_view (take (suc i) steps) ≡ map middle_view (take i steps) ++ middle_view s ∷ [] =
    ap (map middle_view) (take-suc steps i s lt)
    ∙ map-append middle_view (take i steps) (get_or steps i s ∷ [])
    ∙ ap (λ (x : Step). map middle_view (take i steps) ++ middle_view x ∷ []) (sym is) in
    rw (one, more, columns_on_last) (after ∙ ap (λ (x : List Column). step_columns x (middle_view s)) (same ∙ before))
