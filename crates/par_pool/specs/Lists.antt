-- The leaves of a run, and the lists of the workers that ran them.
use Rattle.std.specs.Prelude.{◌≡◌, ◌≢◌, ℕ, ◌+◌, ◌<◌, ◌≤◌, Bool, List, length, slice_index, slice_index_or}
use Rattle.std.specs.List.{Contains, AllPairs}
use Rattle.par_task.specs.Marking.{Kind}
use Rattle.par_task.specs.Alone.{HasTurnsFrom}
use Rattle.par_task.specs.Audits.{Covers, IsIdle}
use Rattle.par_task.specs.declared.audit.Leaf.{Leaf}

-- the list of one worker: its turns rise by one, and it never looked past what it found
pub record IsList (kind : Kind) (marks : List Bool) (leaves : List Leaf) : Type 0 where
  pub seat : ℕ
  pub turns : HasTurnsFrom seat 0 leaves
  pub idle : IsIdle kind marks leaves

-- the leaf stands in the list of its seat at its turn
pub record StandsAt {V : Type 0} (items : V → List Leaf) (lists : List V) (a : Leaf) : Type 0 where
  pub list : V
  pub seat_is : a.seat < length lists
  pub list_is : (d : V) → slice_index_or lists a.seat d ≡ list
  pub turn_is : a.turn < length (items list)
  pub leaf_is : (d : Leaf) → slice_index_or (items list) a.turn d ≡ a

-- a table by node: at the node of each leaf it has the leaf's place and 1
pub record IsTable (table : List ℕ) (leaves : List Leaf) : Type 0 where
  pub nodes : (i : ℕ) (d : Leaf) → i < length leaves → (1 ≤ (slice_index_or leaves i d).node) × ((slice_index_or leaves i d).node ≤ 2047)
  pub places : (i : ℕ) (d : Leaf) → i < length leaves → slice_index table (slice_index_or leaves i d).node ≡ i + 1

-- the leaves tile 0..n, and are those of the lists: each at its seat and turn, and all of these
pub record IsTiling {V : Type 0} (items : V → List Leaf) (lists : List V) (n t seats : ℕ) (leaves : List Leaf) : Type 0 where
  pub covers : Covers n leaves
  pub many : t < n → 1 < length leaves
  pub nodes : (a : Leaf) → Contains leaves a → (1 ≤ a.node) × (a.node ≤ 2047)
  pub distinct : AllPairs (λ a b. a.node ≢ b.node) leaves
  pub few : length lists ≤ seats
  pub stand : (a : Leaf) → Contains leaves a → StandsAt items lists a
  pub told : (v : V) → Contains lists v → (a : Leaf) → Contains (items v) a → Contains leaves a
