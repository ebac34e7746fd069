-- Optional: a way to join values, with None for its unit.
use Rattle.std.specs.Prelude.{Option, Some, None, List, ◌++◌}

-- the one that is there, or the two joined
abbrev pub joined_options : {X : Type 0} → (X → X → X) → Option X → Option X → Option X
joined_options join None b = b
joined_options join (Some a) None = Some a
joined_options join (Some a) (Some b) = Some (join a b)

-- two texts with a separator between them
abbrev pub separated : {X : Type 0} → List X → List X → List X → List X
separated sep a b = a ++ (sep ++ b)
