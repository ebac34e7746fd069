-- What contracts see of signals and of a seat.
use Rattle.std.specs.Prelude.{ℕ, List, Bool}
use Rattle.atomic_table.specs.Seated.{TableId}
use Rattle.par_signal.specs.declared.abort.Abort.{Abort}

-- signals are their marks and which table of words they are
pub record Flags : Type 0 where
  pub table : TableId
  pub marks : List Bool

-- the kinds of step on a flag, one a call
pub data Kind : Type 0 where
  load_low : Kind
  load_high : Kind
  load_abort : Kind
  lower : Kind
  raise : Kind
  abort_by : Kind
  abort_memory : Kind

-- one step: its kind, the number of its word (0 low, 1 high, 2 abort), and the value that it read there
pub record Note : Type 0 where
  pub kind : Kind
  pub word : ℕ
  pub value : ℕ

-- what a seat has seen of some flags
pub record Sight (F : Type 0) : Type 0 where
  -- the flags, as far as they are known
  pub of : F
  -- the last value of each that the seat read or wrote
  pub low : ℕ
  pub high : ℕ
  pub abort : Abort
  -- whether the seat called `abort_memory`
  pub called : Bool
  -- whether no other seat is there
  pub alone : Bool
  -- how many steps the seat took, and a note of each in order
  pub steps : ℕ
  pub notes : List Note

-- a seat is what it has seen of its signals
abbrev pub Seen : Type 0
Seen = Sight Flags
