-- The rule of the board, which holds between any two steps.
-- Each node has a cell: its state and span, who owns it, who holds it and whether its slot is out. Words, slots and views say what the cells say.
use Rattle.std.specs.Prelude.{◌≡◌, ◌≢◌, ℕ, suc, ◌+◌, ◌<◌, ◌≤◌, Bool, true, false, cond, eqb, List, [], ◌∷◌, length, Option, Some, None, slice_index}
use mathlib.Core.Option.{some, none}
use mathlib.Core.Option as maybe
use lib.ListN.{get_elem?}
use Rattle.atomic_table.specs.Seated.{TableId}
use Rattle.atomic_table.specs.Table.{State, Me}
use Rattle.par_board.specs.declared.answers.NodeState.{NodeState}
use Rattle.par_board.specs.declared.answers.NodeState.TheVariants.{Free, Filling, Offered, Taken, Done, Merging, Merged}
use Rattle.par_board.specs.Words.{pack, state_of, lo_of, hi_of, code}
use Rattle.par_board.specs.Tree.{below}
use Rattle.par_board.specs.Seen.{settled, offering, collecting, Owned, not_owned, owned_free, owned_open, owned_merged, Held, not_held, held_over, Note, Sight, Seen, owns_at, holds_at, all_parts}
use Rattle.par_board.specs.Calls.{fresh}

-- what the table keeps for a seat: what it knows, with the job's plain data for the board
abbrev pub Known : Type 0 → Type 0
Known J = Sight (Option J)

-- what contracts see of a load: the job's plain data, the span, and whether it is a part
abbrev pub Plain : Type 0 → Type 0
Plain J = Option J × ℕ × ℕ × Bool

-- The owner and the holder are a seat's number and 1, or 0 where there is none. A node with no owner lies below its cover, which is Filling or Offered.
pub record Cell : Type 0 where
  pub state : NodeState
  pub owner : ℕ
  pub holder : ℕ
  pub out : Bool
  pub lo : ℕ
  pub hi : ℕ
  pub cover : ℕ

-- a node below k, which is kept back
abbrev pub hidden : ℕ → Cell
hidden k = record { state = Free; owner = 0; holder = 0; out = false; lo = 0; hi = 0; cover = k }

-- a free node of the seat j
abbrev pub idle : ℕ → Cell
idle j = record { state = Free; owner = suc j; holder = 0; out = false; lo = 0; hi = 0; cover = 0 }

-- the word of a cell
abbrev pub face : Cell → ℕ
face c = pack c.lo c.hi (code c.state)

-- whether the nodes below are kept back
abbrev pub hides : NodeState → Bool
hides Filling = true
hides Offered = true
hides _ = false

-- what the owner of a node owns of it
abbrev pub entry : ℕ → ℕ → NodeState → Owned
entry lo hi Free = owned_free
entry lo hi Filling = owned_open lo hi offering
entry lo hi Offered = owned_open lo hi settled
entry lo hi Taken = owned_open lo hi settled
entry lo hi Done = owned_open lo hi settled
entry lo hi Merging = owned_open lo hi collecting
entry lo hi Merged = owned_merged

-- what the seat j owns of a node
abbrev pub owns_of : ℕ → Cell → Owned
owns_of j c = cond (eqb c.owner (suc j)) (entry c.lo c.hi c.state) not_owned

-- what it holds of a node
abbrev pub holds_of : ℕ → Cell → Held
holds_of j c = cond (eqb c.holder (suc j)) (held_over c.lo c.hi c.out) not_held

-- a word that a seat read, and was not Free, has the node's span, and the node's state has come no less far
abbrev pub Later : ℕ → Cell → Type 0
Later read c = state_of read ≢ 0 → (lo_of read ≡ c.lo) × (hi_of read ≡ c.hi) × (state_of read ≤ code c.state)

-- every step that a seat noted fits the cells
abbrev pub NotesFit : (ℕ → Cell) → List Note → Type 0
NotesFit cells notes = (i : ℕ) (note : Note) → get_elem? notes i ≡ some note → (note.node < 2048) × Later note.read (cells note.node)

-- the parts that seats stand for in all
abbrev pub sum_parts : {F : Type 0} → List (Sight F) → ℕ
sum_parts [] = 0
sum_parts (v ∷ vs) = v.parts + sum_parts vs

-- The parts of all seats, and those that were lost at splits, are all parts. Some are lost where a live seat has none.
abbrev pub Parted : {F : Type 0} → List (Sight F) → Type 0
Parted {F} views = (lost : ℕ) × (sum_parts views + lost ≡ all_parts) × ((j : ℕ) (v : Sight F) → get_elem? views j ≡ some v → v.live ≡ true → v.parts ≡ 0 → 0 < lost)

module _ {J : Type 0} where
  -- what the slot of a node in such a state has: nothing known where it is out with a seat
  abbrev pub home_at : Option J → ℕ → ℕ → Bool → NodeState → maybe.Option (Option (Plain J))
  home_at job lo hi out Free = some None
  home_at job lo hi out Filling = none
  home_at job lo hi out Offered = some (Some (job, lo, hi, false))
  home_at job lo hi out Taken = cond out none (some None)
  home_at job lo hi out Done = some (Some (job, lo, hi, true))
  home_at job lo hi out Merging = none
  home_at job lo hi out Merged = some None

  -- the same of a cell
  abbrev pub home_of : Option J → Cell → maybe.Option (Option (Plain J))
  home_of job c = home_at job c.lo c.hi c.out c.state

  -- the first view
  abbrev pub begun : Option J → Known J
  begun job = fresh job

  -- the view of a seat that was joined into another
  abbrev pub spent : Known J
  spent = record { of = None; live = false; owns = []; holds = []; parts = 0; notes = [] }

  -- the seat j is live
  abbrev pub Lives : List (Known J) → ℕ → Type 0
  Lives views j = (v : Known J) × (get_elem? views j ≡ some v) × (v.live ≡ true)

  -- a node's word and slot are those of its cell, and its cell is in order
  pub record CellOk (job : Option J) (n : ℕ) (words : List ℕ) (homes : List (maybe.Option (Option (Plain J)))) (k : ℕ) (c : Cell) : Type 0 where
    pub shows : slice_index words k ≡ face c
    pub lies : get_elem? homes k ≡ some (home_of job c)
    pub blank : code c.state ≡ 0 → (c.lo ≡ 0) × (c.hi ≡ 0)
    pub ordered : c.lo ≤ c.hi
    pub within : c.hi ≤ n
    pub gripped : code c.state ≢ 3 → c.holder ≡ 0
    pub held : code c.state ≡ 3 → c.holder ≢ 0
    pub bare : code c.state ≢ 0 → c.owner ≢ 0

  -- what the seat j knows is what the cells say
  pub record Knows (job : Option J) (cells : ℕ → Cell) (j : ℕ) (v : Known J) : Type 0 where
    pub job_is : v.of ≡ job
    pub owns : (k : ℕ) → k < 2048 → owns_at v k ≡ owns_of j (cells k)
    pub holds : (k : ℕ) → k < 2048 → holds_at v k ≡ holds_of j (cells k)
    pub noted : NotesFit cells v.notes

  -- what holds between any two steps
  pub record Kept (job : Option J) (n : ℕ) (s : State (Option (Plain J)) (Known J)) : Type 0 where
    pub cells : ℕ → Cell
    pub wide : (length s.words ≡ 2048) × (length s.homes ≡ 2048)
    pub few : n ≤ 4194304
    pub each_cell : (k : ℕ) → k < 2048 → CellOk job n s.words s.homes k (cells k)
    pub owned : (k j : ℕ) → k < 2048 → (cells k).owner ≡ suc j → Lives s.views j
    pub gripped : (k j : ℕ) → k < 2048 → (cells k).holder ≡ suc j → Lives s.views j
    pub each_view : (j : ℕ) (v : Known J) → get_elem? s.views j ≡ some v → v.live ≡ true → Knows job cells j v
    pub covers : (a m : ℕ) → a < 2048 → m < 2048 → hides (cells a).state ≡ true → below a m ≡ true → cells m ≡ hidden a
    pub covered : (m : ℕ) → 0 < m → m < 2048 → (cells m).owner ≡ 0 → ((cells m).cover < 2048) × (hides (cells (cells m).cover).state ≡ true) × (below (cells m).cover m ≡ true)
    pub parted : Parted s.views

  -- what every seat keeps between its calls: it is live, and no slot is out with it
  pub record IsSeat (m : Me (Option (Plain J)) (Known J)) : Type 0 where
    pub live : m.0.live ≡ true
    pub bare : m.1 ≡ []

  -- what a seat knows, with the table that its board is
  abbrev pub located : TableId → Known J → Seen J
  located t v = record { of = record { table = t; job = v.of }; live = v.live; owns = v.owns; holds = v.holds; parts = v.parts; notes = v.notes }
