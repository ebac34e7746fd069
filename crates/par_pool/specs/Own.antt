-- What one worker has: its seats, and the list of the leaves that it ran.
use Rattle.std.specs.Prelude.{◌≡◌, ℕ, ◌<◌, List, length, Bool}
use Rattle.std.specs.List.{Contains}
use Rattle.par_signal.specs.Seen.{Seen, Flags}
use Rattle.par_task.specs.Marking.{Kind}
use Rattle.par_task.specs.Seats.{HasFound}
use Rattle.par_task.specs.Alone.{HasTurnsFrom}
use Rattle.par_task.specs.Audits.{IsIdle}
use Rattle.par_task.specs.declared.audit.Leaf.{Leaf}
use Rattle.par_board.specs.Seen.{Sight}
use Rattle.par_board.specs.Calls.{HoldsNothing, OpensNothing}

-- all leaves that the seat ran, by turn; what each found the seat has seen, and heeded since
pub record IsOwn (kind : Kind) (marks : List Bool) (seat : ℕ) (seen : Seen) (leaves : List Leaf) : Type 0 where
  pub turns : HasTurnsFrom seat 0 leaves
  pub earlier : (a : Leaf) → Contains leaves a → a.turn < length leaves
  pub idle : IsIdle kind marks leaves
  pub knows : (a : Leaf) → Contains leaves a → HasFound kind marks a.lo a.tested seen

-- a worker of a run over this board and these flags
pub record IsWorker {F : Type 0} (kind : Kind) (marks : List Bool) (board : F) (flags : Flags) (number : ℕ) (seat : Sight F) (signal : Seen) (leaves : List Leaf) : Type 0 where
  pub board_is : seat.of ≡ board
  pub signal_is : signal.of ≡ flags
  pub own : IsOwn kind marks number signal leaves

-- one that holds nothing and has nothing open
pub record IsResting {F : Type 0} (kind : Kind) (marks : List Bool) (board : F) (flags : Flags) (number : ℕ) (seat : Sight F) (signal : Seen) (leaves : List Leaf) : Type 0 where
  pub worker : IsWorker kind marks board flags number seat signal leaves
  pub holds : HoldsNothing seat
  pub opens : OpensNothing seat
