-- Parts: what the lines so far have said of a plan.
use Rattle.std.specs.Prelude.{◌++◌, ℕ, List, [], ◌∷◌, map, Option, Some, None, option_map}
use Rattle.pipe_steps.specs.declared.source.Kind.{Kind}
use Rattle.pipe_steps.specs.declared.source.Kind.TheVariants as kinds
use Rattle.pipe_steps.specs.Said.{Origin, Middle, End, Said, Second, Begins, Par, Goes, Ends, source_view, middle_view, last_view}
use Rattle.pipe_program.specs.declared.draft.Draft.{Draft}
use Rattle.pipe_program.specs.Plans.{Plan}

pub record Parts : Type 0 where
  pub version : ℕ
  pub origin : Option Origin
  pub kind : Kind
  pub middles : List Middle
  pub last : Option End

abbrev pub parts : Draft → Parts
parts d = record { version = d.version; origin = option_map source_view d.source; kind = d.kind; middles = map middle_view d.steps.items; last = option_map last_view d.last }

-- before the first line
abbrev pub no_parts : Parts
no_parts = record { version = 1; origin = None; kind = kinds.Array; middles = []; last = None }

-- with what one more line says
abbrev pub with_line : Parts → Said → Parts
with_line d Second = record d { version = 2 }
with_line d (Begins o) = record d { origin = Some o }
with_line d (Par k) = record d { kind = k }
with_line d (Goes m) = record d { middles = d.middles ++ m ∷ [] }
with_line d (Ends l) = record d { last = Some l }

abbrev pub with_ends : Parts → Option Origin → Option End → Option Plan
with_ends d (Some o) (Some l) = Some (record { version = d.version; origin = o; kind = d.kind; middles = d.middles; last = l })
with_ends d _ _ = None

-- the plan, where its source and its last step are there
abbrev pub whole : Parts → Option Plan
whole d = with_ends d d.origin d.last
