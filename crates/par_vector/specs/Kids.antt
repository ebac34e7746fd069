-- A list of nodes with one node more.
use Rattle.std.specs.Prelude.{◌≡◌, List, [], ◌∷◌, ◌++◌}

-- one node stands after those that were there, and the item alone stands in it
pub record HasOneMore {N T : Type 0} (items : N → List T) (old : List N) (item : T) (new : List N) : Type 0 where
  pub kid : N
  pub alone : items kid ≡ item ∷ []
  pub after : new ≡ old ++ kid ∷ []
