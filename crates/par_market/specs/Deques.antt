-- The deques of a market: the rule of one, and what contracts see of all.
use Rattle.std.specs.Prelude.{◌≡◌, ℕ, ◌+◌, ◌<◌, Bool, true, List, [], ◌∷◌, ◌++◌, length}
use mathlib.Core.Option.{some}
use lib.ListN.{get_elem?}
use Rattle.par_market.specs.declared.ticket.Ticket.{Ticket}
use Rattle.par_market.specs.declared.rule.Entry.{Entry}
use Rattle.par_market.specs.declared.rule.Account.{Account}
use Rattle.par_market.specs.declared.rule.Told.{Told}

abbrev pub account : Bool → List Ticket → List Entry → Account
account owner posted found = record { owner = owner; posted = posted; found = found }

abbrev pub told : List Ticket → List (List Entry) → Told
told posted found = record { posted = posted; found = found }

-- the tickets with their places, which go on from t
abbrev pub placed : ℕ → List Ticket → List Entry
placed t [] = []
placed t (x ∷ xs) = record { place = t; ticket = x } ∷ placed (t + 1) xs

-- the entries of one list each have their ticket at their place of the other
abbrev pub StandIn : List Ticket → List Entry → Type 0
StandIn posted found = (i : ℕ) (e : Entry) → get_elem? found i ≡ some e → get_elem? posted e.place ≡ some e.ticket

-- two entries with one place are one
abbrev pub IsOnce : List Account → Type 0
IsOnce views = (p q i j : ℕ) (v w : Account) (e f : Entry) → get_elem? views p ≡ some v → get_elem? views q ≡ some w → get_elem? v.found i ≡ some e → get_elem? w.found j ≡ some f → e.place ≡ f.place → (p ≡ q) × (i ≡ j)

-- What holds of a deque between any two steps: its owner posted `gone` and then `left`, `left` with its places lies in the deque, each entry that was found stands in `gone`, and no place was found twice.
pub record IsOrdered (items : List Entry) (views : List Account) : Type 0 where
  pub gone : List Ticket
  pub left : List Ticket
  pub items_are : items ≡ placed (length gone) left
  pub owner : (port : ℕ) (v : Account) → get_elem? views port ≡ some v → v.owner ≡ true → (port ≡ 0) × (v.posted ≡ gone ++ left)
  pub found : (port : ℕ) (v : Account) → get_elem? views port ≡ some v → StandIn gone v.found
  pub once : IsOnce views

-- the place is greater than all in the list
abbrev pub Above : List Entry → ℕ → Type 0
Above found place = (i : ℕ) (e : Entry) → get_elem? found i ≡ some e → e.place < place

abbrev pub with_found : Account → Entry → Account
with_found v e = account v.owner v.posted (v.found ++ e ∷ [])

-- the tickets of entries
abbrev pub tickets : List Entry → List Ticket
tickets [] = []
tickets (e ∷ es) = e.ticket ∷ tickets es

-- the owner's view after these entries were added at the back
abbrev pub Adds : Account → List Entry → Account → Type 0
Adds v xs w = w ≡ account v.owner (v.posted ++ tickets xs) v.found

-- the view after these entries were taken at the front: their places are greater than all that were found
abbrev pub Takes : Account → List Entry → Account → Type 0
Takes v xs w = (w ≡ account v.owner v.posted (v.found ++ xs)) × ((i : ℕ) (e : Entry) → get_elem? xs i ≡ some e → Above v.found e.place)

-- a ticket was taken, from a place that is greater than all that were found
abbrev pub HasTaken : Account → Ticket → Account → Type 0
HasTaken v t w = (place : ℕ) × Above v.found place × (w ≡ with_found v (record { place = place; ticket = t }))
