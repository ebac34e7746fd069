-- One leaf that was run, with its record.
use Rattle.std.specs.Prelude.{◌≡◌, ℕ, ◌+◌, List, Bool}
use Rattle.par_signal.specs.Seen.{Seen}
use Rattle.par_task.specs.Marking.{Kind}
use Rattle.par_task.specs.Seats.{IsLeafOf}
use Rattle.par_task.specs.declared.audit.Leaf.{Leaf}

-- the leaf of so many items from lo on ran at that node, seat and turn, and gave that good part
pub record IsRun {P : Type 0} (kind : Kind) (marks : List Bool) (good : ℕ → ℕ → P → Type 0) (lo count node seat turn before after : ℕ) (old new : Seen) (part : P) (leaf : Leaf) : Type 0 where
  pub node_is : leaf.node ≡ node
  pub lo_is : leaf.lo ≡ lo
  pub hi_is : leaf.hi ≡ lo + count
  pub seat_is : leaf.seat ≡ seat
  pub turn_is : leaf.turn ≡ turn
  pub made : after ≡ before + leaf.tested
  pub leaf_of : IsLeafOf kind marks leaf.lo leaf.hi old new leaf.flag leaf.tested
  pub good_is : good leaf.lo leaf.hi part
