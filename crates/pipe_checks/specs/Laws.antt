-- Each line in its place says one thing or has one least fault.
use Rattle.std.specs.Prelude.{◌≡◌, ◌⊎◌, List}
use Rattle.pipe_expr.specs.declared.token.Token.{Token}
use Rattle.pipe_steps.specs.Said.{Said}
use Rattle.pipe_checks.specs.declared.fault.Fault.{Fault}
use Rattle.pipe_checks.specs.Places.{Spot, Accepts, Refuses}

-- the line is accepted or refused there
abbrev pub IsSettled : Spot → List Token → Type 0
IsSettled p ts = ((y : Said) × Accepts p y ts) ⊎ ((k : Fault) × Refuses p k ts)

-- the line is accepted as one thing at most, has one least fault at most, and not both
pub record IsUnique (p : Spot) (ts : List Token) : Type 0 where
  pub accepted : (x y : Said) → Accepts p x ts → Accepts p y ts → x ≡ y
  pub refused : (j k : Fault) → Refuses p j ts → Refuses p k ts → j ≡ k
  pub apart : (x : Said) (k : Fault) → Accepts p x ts → ¬ (Refuses p k ts)
