-- What contracts see of a board and of a seat.
use Rattle.std.specs.Prelude.{ℕ, Bool, List, Option, slice_index_or}
use Rattle.atomic_table.specs.Seated.{TableId}

-- the call of the seat that opened a node, while it is under way
pub data Flight : Type 0 where
  settled : Flight
  offering : Flight
  collecting : Flight

-- what a seat owns of a node: nothing, the free node, the node that it opened over lo..hi, or the merged node
pub data Owned : Type 0 where
  not_owned : Owned
  owned_free : Owned
  owned_open : ℕ → ℕ → Flight → Owned
  owned_merged : Owned

-- whether a seat holds a node, over which lo..hi, and whether the node's slot is out with it
pub data Held : Type 0 where
  not_held : Held
  held_over : ℕ → ℕ → Bool → Held

-- the kinds of step on a node
pub data Kind : Type 0 where
  step_fill : Kind
  step_offer : Kind
  step_claim : Kind
  step_finish : Kind
  step_take : Kind
  step_close : Kind
  step_load : Kind

-- one step: its kind, its node, and the word that it read there
pub record Note : Type 0 where
  pub kind : Kind
  pub node : ℕ
  pub read : ℕ

-- which board it is: its table, and its job's plain data; no job is known of a seat that was joined into another
pub record Origin (J : Type 0) : Type 0 where
  pub table : TableId
  pub job : Option J

-- a board is which board it is, and its job's plain data
pub record Boards (J : Type 0) : Type 0 where
  pub of : Origin J
  pub job : J

-- what a seat knows of some board
pub record Sight (F : Type 0) : Type 0 where
  -- the board, as far as it is known
  pub of : F
  -- whether the seat is still there, and not joined into another
  pub live : Bool
  -- what it owns and holds of each node, by the node's number
  pub owns : List Owned
  pub holds : List Held
  -- of the board's parts, how many it stands for
  pub parts : ℕ
  -- its steps, the newest first
  pub notes : List Note

-- a seat is what it knows of its board
abbrev pub Seen : Type 0 → Type 0
Seen J = Sight (Origin J)

module _ {F : Type 0} where
  -- what the seat owns of the node k
  abbrev pub owns_at : Sight F → ℕ → Owned
  owns_at v k = slice_index_or v.owns k not_owned

  -- whether it holds the node k
  abbrev pub holds_at : Sight F → ℕ → Held
  holds_at v k = slice_index_or v.holds k not_held

-- The parts of a board, all of which its first seat stands for. They tell when no other seat is left.
abbrev pub all_parts : ℕ
all_parts = 4294967296
