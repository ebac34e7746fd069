-- What contracts see of a market of deques and of its seats.
use Rattle.std.specs.Prelude.{◌≡◌, ℕ, ◌<◌, List, [], ◌∷◌, ◌++◌, length, map, replicate, None, slice_set, slice_index_or}
use Rattle.std.specs.declared.alloc.Global.{Global}
use Rattle.atomic_blocks.specs.Lent.{RowsId}
use Rattle.crossbeam_deque.specs.Handles.{view, stealer_deque}
use Rattle.crossbeam_deque.specs.declared.handles.Stealer.{Stealer}
use Rattle.par_market.specs.declared.ticket.Ticket.{Ticket}
use Rattle.par_market.specs.declared.rule.Entry.{Entry}
use Rattle.par_market.specs.declared.rule.Account.{Account}
use Rattle.par_market.specs.declared.rule.DequeRule.{DequeRule}
use Rattle.par_market.specs.declared.rule.Told.{Told}
use Rattle.par_market.specs.declared.ends.Lane.{Lane}
use Rattle.par_market.specs.Deques.{Above, told}

-- which deque it is
abbrev pub DequeId : Type 0
DequeId = RowsId × Global

abbrev pub deques_of : List (Stealer Entry Global Account DequeRule) → List DequeId
deques_of thieves = map stealer_deque thieves

abbrev pub lane_deques : List Lane → List DequeId
lane_deques lanes = map (λ l. (l.pass.rows, l.pass.heap)) lanes

abbrev pub lane_counts : List Lane → List ℕ
lane_counts lanes = map (λ l. l.empty) lanes

abbrev pub lane_finds : List Lane → List (List Entry)
lane_finds lanes = map (λ l. (view {V = Account} l.pass).found) lanes

-- the pass of the lane carries nothing
abbrev pub IsBare : Lane → Type 0
IsBare l = (l.pass.me.hand ≡ None) × (l.pass.me.spare ≡ None)

-- a seat: the deques that it looks at and the number of its own, its counts, and what it posted and found
pub record Seats : Type 0 where
  pub deques : List DequeId
  pub own : ℕ
  pub refused : ℕ
  pub empty : List ℕ
  pub known : Told

-- a seat that did nothing yet
abbrev pub fresh : List DequeId → ℕ → Seats
fresh deques own = record { deques = deques; own = own; refused = 0; empty = replicate (length deques) 0; known = told [] (replicate (length deques) []) }

-- the seat is one of the market with these deques
abbrev pub IsSeatOf : List DequeId → Seats → Type 0
IsSeatOf deques seat = (seat.deques ≡ deques) × (seat.own < length deques)

-- a ticket was posted
abbrev pub HasPosted : Told → Ticket → Told → Type 0
HasPosted v t w = w ≡ told (v.posted ++ t ∷ []) v.found

-- a ticket was found in the deque k, at a place that is greater than all that the seat had found there
abbrev pub HasFound : Told → ℕ → Ticket → Told → Type 0
HasFound v k t w = (place : ℕ) × Above (slice_index_or v.found k []) place × (w ≡ told v.posted (slice_set v.found k (slice_index_or v.found k [] ++ record { place = place; ticket = t } ∷ [])))
