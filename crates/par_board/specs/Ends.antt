-- The board at the end.
use Rattle.std.specs.Prelude.{◌≡◌, ℕ, ◌<◌, ◌⊎◌, List, Option, None}
use mathlib.Core.Option.{some}
use lib.ListN.{get_elem?}
use Rattle.par_board.specs.Words.{state_of}
use Rattle.par_board.specs.Rule.{Plain}

-- each node is Free or Merged, and its slot is at home and empty
abbrev pub Ended : {J : Type 0} → List ℕ → List (Option (Plain J)) → Type 0
Ended words slots = (m : ℕ) → m < 2048 → ((w : ℕ) → get_elem? words m ≡ some w → (state_of w ≡ 0) ⊎ (state_of w ≡ 6)) × (get_elem? slots m ≡ some None)
