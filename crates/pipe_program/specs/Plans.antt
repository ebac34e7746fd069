-- Plans: what a text says as a whole, and which lines say it.
use Rattle.std.specs.Prelude.{◌≡◌, ◌⊎◌, ◌++◌, ◌-◌, ℕ, List, [], ◌∷◌, map, take}
use Rattle.par_rows.specs.declared.schema.Column.{Column}
use Rattle.pipe_steps.specs.declared.source.Kind.{Kind}
use Rattle.pipe_steps.specs.declared.source.Kind.TheVariants as kinds
use Rattle.pipe_steps.specs.Said.{Origin, Middle, End, Said, Second, Begins, Par, Goes, Ends, source_view, middle_view, last_view}
use Rattle.pipe_checks.specs.Columns.{source_columns, step_columns}
use Rattle.pipe_program.specs.declared.pipeline.Pipeline.{Pipeline}

-- a pipeline without where its parts lie in memory
pub record Plan : Type 0 where
  pub version : ℕ
  pub origin : Origin
  pub kind : Kind
  pub middles : List Middle
  pub last : End

abbrev pub plan : Pipeline → Plan
plan p = record { version = p.version; origin = source_view p.source; kind = p.kind; middles = map middle_view p.steps.items; last = last_view p.last }

-- version 2 has a first line of its own, and version 1 has none
abbrev pub Opens : ℕ → List Said → Type 0
Opens version ys = ((version ≡ 1) × (ys ≡ [])) ⊎ ((version ≡ 2) × (ys ≡ Second ∷ []))

-- the `par` line; without one the collection is an array
abbrev pub Holds : Kind → List Said → Type 0
Holds k ys = ((k ≡ kinds.Array) × (ys ≡ [])) ⊎ (ys ≡ Par k ∷ [])

-- these lines say this plan: perhaps the version, the source, perhaps a `par` line, the middle steps, and the last step
abbrev pub AreOf : Plan → List Said → Type 0
AreOf p ys = (head : List Said) × (par : List Said) × Opens p.version head × Holds p.kind par
    × (ys ≡ head ++ Begins p.origin ∷ (par ++ (map Goes p.middles ++ Ends p.last ∷ [])))

-- the columns after these steps, where these are there before
abbrev pub columns_on : List Column → List Middle → List Column
columns_on cs [] = cs
columns_on cs (m ∷ ms) = columns_on (step_columns cs m) ms

-- the columns after the first k steps, of which the source is the first
abbrev pub columns_at : ℕ → Plan → List Column
columns_at k p = columns_on (source_columns p.origin) (take (k - 1) p.middles)
