-- Choices: the items that a test chooses. `filter` is std's.
use Rattle.std.specs.Prelude.{Bool, not, List, filter, map}

-- the items that fail the test, in order
abbrev pub filter_not : {X : Type 0} → (X → Bool) → List X → List X
filter_not p xs = filter (λ x. not (p x)) xs

-- the items that pass, and those that fail
abbrev pub partition : {X : Type 0} → (X → Bool) → List X → List X × List X
partition p xs = (filter p xs, filter_not p xs)

-- f of each item that passes
abbrev pub collect : {X Y : Type 0} → (X → Bool) → (X → Y) → List X → List Y
collect p f xs = map f (filter p xs)
