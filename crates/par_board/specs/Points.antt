-- What the rule means, in plain words of nodes, seats and slots.
use Rattle.std.specs.Prelude.{◌≡◌, ◌≢◌, ℕ, ◌<◌, ◌≤◌, ◌⊎◌, Bool, true, false, List, Option, Some, None, slice_index}
use mathlib.Core.Option.{some, none}
use mathlib.Core.Option as maybe
use lib.ListN.{get_elem?}
use Rattle.atomic_table.specs.Table.{State}
use Rattle.par_board.specs.Words.{state_of, lo_of, hi_of}
use Rattle.par_board.specs.Tree.{below}
use Rattle.par_board.specs.Seen.{Flight, settled, offering, collecting, Owned, not_owned, owned_free, owned_open, owned_merged, not_held, held_over, Note, owns_at, holds_at, all_parts}
use Rattle.par_board.specs.Rule.{Plain, Known}

-- a word has this span
abbrev pub HasSpan : ℕ → ℕ → ℕ → Type 0
HasSpan w lo hi = (lo_of w ≡ lo) × (hi_of w ≡ hi)

-- the state of a node that a seat has open: Filling or Merging exactly where a call of its own is under way
abbrev pub FliesAt : Flight → ℕ → Type 0
FliesAt settled state = (2 ≤ state) × (state ≤ 4)
FliesAt offering state = state ≡ 1
FliesAt collecting state = state ≡ 5

-- what a seat owns of a node is what the node's word says
abbrev pub OwnedSays : Owned → ℕ → Type 0
OwnedSays not_owned w = Unit {0}
OwnedSays owned_free w = w ≡ 0
OwnedSays (owned_open lo hi f) w = HasSpan w lo hi × FliesAt f (state_of w)
OwnedSays owned_merged w = state_of w ≡ 6

-- some node above m is Filling or Offered
abbrev pub IsKeptBack : List ℕ → ℕ → Type 0
IsKeptBack words m = (a : ℕ) × (a < 2048) × (below a m ≡ true) × ((state_of (slice_index words a) ≡ 1) ⊎ (state_of (slice_index words a) ≡ 2))

-- a step that a seat noted, where it found the node not Free: the node has that span still, and has come no less far
abbrev pub NoteHolds : List ℕ → Note → Type 0
NoteHolds words note = state_of note.read ≢ 0 → HasSpan (slice_index words note.node) (lo_of note.read) (hi_of note.read) × (state_of note.read ≤ state_of (slice_index words note.node))

module _ {J : Type 0} where
  -- what the slot of a node with this word has: none where it is out with a seat
  pub record SlotFits (job : Option J) (w : ℕ) (home : maybe.Option (Option (Plain J))) : Type 0 where
    pub empty : (state_of w ≡ 0) ⊎ (state_of w ≡ 6) → home ≡ some None
    pub offered : state_of w ≡ 2 → home ≡ some (Some (job, lo_of w, hi_of w, false))
    pub done : state_of w ≡ 4 → home ≡ some (Some (job, lo_of w, hi_of w, true))
    pub taken : state_of w ≡ 3 → (home ≡ none) ⊎ (home ≡ some None)
    pub out : (state_of w ≡ 1) ⊎ (state_of w ≡ 5) → home ≡ none

  -- each live view has P
  abbrev pub EachLive : List (Known J) → (Known J → Type 0) → Type 0
  EachLive views P = (j : ℕ) (v : Known J) → get_elem? views j ≡ some v → v.live ≡ true → P v

  -- exactly one live view has P
  abbrev pub JustOne : List (Known J) → (Known J → Type 0) → Type 0
  JustOne views P = (j : ℕ) × (v : Known J) × (get_elem? views j ≡ some v) × (v.live ≡ true) × P v × ((i : ℕ) (u : Known J) → get_elem? views i ≡ some u → u.live ≡ true → P u → i ≡ j)

  -- what holds between any two steps
  pub record Points (job : Option J) (n : ℕ) (s : State (Option (Plain J)) (Known J)) : Type 0 where
    -- a Free word is 0, and any other has one of the other six states and a span within 0..n
    pub free : (m : ℕ) → m < 2048 → state_of (slice_index s.words m) ≡ 0 → slice_index s.words m ≡ 0
    pub spans : (m : ℕ) → m < 2048 → (state_of (slice_index s.words m) ≤ 6) × (lo_of (slice_index s.words m) ≤ hi_of (slice_index s.words m)) × (hi_of (slice_index s.words m) ≤ n)
    -- a node below a Filling or Offered one is Free, and no live seat owns it; of any other, exactly one live seat owns something
    pub kept_back : (m : ℕ) → m < 2048 → IsKeptBack s.words m → (slice_index s.words m ≡ 0) × EachLive s.views (λ v. owns_at v m ≡ not_owned)
    pub one_owner : (m : ℕ) → 0 < m → m < 2048 → ¬ IsKeptBack s.words m → JustOne s.views (λ v. owns_at v m ≢ not_owned)
    -- what a seat owns of a node is what the node's word says
    pub owned : EachLive s.views (λ v. (m : ℕ) → m < 2048 → OwnedSays (owns_at v m) (slice_index s.words m))
    -- exactly one live seat holds a Taken node, with its span, and none holds another
    pub one_holder : (m : ℕ) → m < 2048 → state_of (slice_index s.words m) ≡ 3 → JustOne s.views (λ v. holds_at v m ≢ not_held)
    pub held : EachLive s.views (λ v. (m lo hi : ℕ) (out : Bool) → m < 2048 → holds_at v m ≡ held_over lo hi out → (state_of (slice_index s.words m) ≡ 3) × HasSpan (slice_index s.words m) lo hi)
    -- each slot is out with a seat, or has what its node's state says
    pub slots : (m : ℕ) → m < 2048 → (home : maybe.Option (Option (Plain J))) × (get_elem? s.homes m ≡ some home) × SlotFits job (slice_index s.words m) home
    -- what a seat noted of a node that was not Free holds still
    pub notes : EachLive s.views (λ v. (i : ℕ) (note : Note) → get_elem? v.notes i ≡ some note → (note.node < 2048) × NoteHolds s.words note)
    -- all live seats know the same job
    pub jobs : EachLive s.views (λ v. v.of ≡ job)
    -- where a live seat stands for all parts, no other is live
    pub last : (i j : ℕ) (v u : Known J) → get_elem? s.views i ≡ some v → v.live ≡ true → v.parts ≡ all_parts → get_elem? s.views j ≡ some u → u.live ≡ true → j ≡ i
