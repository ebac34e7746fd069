-- What each step tells the seat that takes it.
use Rattle.std.specs.Prelude.{◌≡◌, ◌≢◌, ℕ, ◌≤◌, ◌∷◌, Bool, true, false, cond, eqb, List, Option, Some, None}
use Rattle.atomic_table.specs.Table.{Me, Step, rest}
use Rattle.par_board.specs.Words.{state_of, lo_of, hi_of}
use Rattle.par_board.specs.Tree.{below, table}
use Rattle.par_board.specs.Seen.{Owned, not_owned, owned_free, owned_open, owned_merged, settled, offering, collecting, Held, not_held, held_over, Kind, step_fill, step_offer, step_claim, step_finish, step_take, step_close, Note, owns_at, holds_at}
use Rattle.par_board.specs.Calls.{noted, looks}
use Rattle.par_board.specs.Rule.{Plain, Known}

-- a seat with its view, and the slots that are out with it
abbrev pub Seated : Type 0 → Type 0
Seated J = Me (Option (Plain J)) (Known J)

module _ {J : Type 0} where
  -- the view with the node k owned in this way
  abbrev pub own : ℕ → Owned → Known J → Known J
  own k p v = record v { owns = table (λ m. cond (eqb m k) p (owns_at v m)) }

  -- the view with the node k held in this way
  abbrev pub grip : ℕ → Held → Known J → Known J
  grip k g v = record v { holds = table (λ m. cond (eqb m k) g (holds_at v m)) }

  -- the view with each node below k owned in this way
  abbrev pub own_below : ℕ → Owned → Known J → Known J
  own_below k p v = record v { owns = table (λ m. cond (below k m) p (owns_at v m)) }

  -- the node k open, and no node below it owned
  abbrev pub after_fill : ℕ → ℕ → ℕ → Known J → Known J
  after_fill k lo hi v = own k (owned_open lo hi offering) (own_below k not_owned v)

  -- the node k held, with its slot out, and the nodes below it owned
  abbrev pub after_claim : ℕ → ℕ → ℕ → Known J → Known J
  after_claim k lo hi v = grip k (held_over lo hi true) (own_below k owned_free v)

  -- what the word of a node says that the seat opened
  abbrev pub OpenedOver : ℕ → Known J → ℕ → Type 0
  OpenedOver k v r = (lo hi : ℕ) → owns_at v k ≡ owned_open lo hi settled → (2 ≤ state_of r) × (state_of r ≤ 4) × (lo_of r ≡ lo) × (hi_of r ≡ hi)

  -- what the word of a node says that the seat holds
  abbrev pub HeldOver : ℕ → Known J → ℕ → Type 0
  HeldOver k v r = (lo hi : ℕ) (out : Bool) → holds_at v k ≡ held_over lo hi out → (state_of r ≡ 3) × (lo_of r ≡ lo) × (hi_of r ≡ hi)

  -- a load
  abbrev pub looked : Step (Option (Plain J)) → Seated J → ℕ → Seated J → Type 0
  looked st m r m' = (m' ≡ (looks st.word r m.0, m.1)) × (state_of r ≤ 6) × OpenedOver st.word m.0 r

  -- the seat's last step read this word of the node
  abbrev pub LastRead : ℕ → ℕ → Known J → Type 0
  LastRead k r v = (kind : Kind) × (older : List Note) × (v.notes ≡ record { kind = kind; node = k; read = r } ∷ older)

  -- a step found another word, and where the seat had read the one that it named, another state
  abbrev pub missed : Kind → Step (Option (Plain J)) → Seated J → ℕ → Seated J → Type 0
  missed k st m r m' = (m' ≡ (noted k st.word r m.0, m.1)) × (state_of r ≤ 6) × (LastRead st.word st.first m.0 → state_of r ≢ state_of st.first)

  -- an Offered node is taken, its slot goes out with the seat, and the nodes below are the seat's
  abbrev pub claimed : Step (Option (Plain J)) → Seated J → ℕ → Seated J → Type 0
  claimed st m r m' =
      (r ≡ st.first → m' ≡ (noted step_claim st.word r (after_claim st.word (lo_of r) (hi_of r) m.0), (st.word, Some (m.0.of, lo_of r, hi_of r, false)) ∷ m.1))
      × (r ≢ st.first → missed step_claim st m r m')

  -- the empty slot of a held node goes out with the seat
  abbrev pub lifted : Step (Option (Plain J)) → Seated J → ℕ → Seated J → Type 0
  lifted st m r m' = (m' ≡ (looks st.word r (grip st.word (held_over (lo_of r) (hi_of r) true) m.0), (st.word, None) ∷ m.1)) × HeldOver st.word m.0 r

  -- it comes home
  abbrev pub laid : Step (Option (Plain J)) → Seated J → ℕ → Seated J → Type 0
  laid st m r m' = (m' ≡ (looks st.word r (grip st.word (held_over (lo_of r) (hi_of r) false) m.0), rest m.1)) × HeldOver st.word m.0 r

  -- a held node is done, and its slot comes home with the part
  abbrev pub finished : Step (Option (Plain J)) → Seated J → ℕ → Seated J → Type 0
  finished st m r m' = (m' ≡ (noted step_finish st.word r (grip st.word not_held m.0), rest m.1)) × (r ≡ st.first)

  -- a free node is filled, its empty slot goes out with the seat, and the nodes below are kept back
  abbrev pub filled : Step (Option (Plain J)) → Seated J → ℕ → Seated J → Type 0
  filled st m r m' = (m' ≡ (noted step_fill st.word r (after_fill st.word (lo_of st.second) (hi_of st.second) m.0), (st.word, None) ∷ m.1)) × (r ≡ st.first)

  -- a filled node is offered, and its slot comes home with the splitter
  abbrev pub offered : Step (Option (Plain J)) → Seated J → ℕ → Seated J → Type 0
  offered st m r m' = (m' ≡ (noted step_offer st.word r (own st.word (owned_open (lo_of r) (hi_of r) settled) m.0), rest m.1)) × (r ≡ st.first)

  -- a done node is taken back by the seat that opened it, and its slot goes out with it
  abbrev pub took : Step (Option (Plain J)) → Seated J → ℕ → Seated J → Type 0
  took st m r m' = (m' ≡ (noted step_take st.word r (own st.word (owned_open (lo_of r) (hi_of r) collecting) m.0), (st.word, Some (m.0.of, lo_of r, hi_of r, true)) ∷ m.1)) × (r ≡ st.first)

  -- a node that was taken back is merged, and its empty slot comes home
  abbrev pub closed : Step (Option (Plain J)) → Seated J → ℕ → Seated J → Type 0
  closed st m r m' = (m' ≡ (noted step_close st.word r (own st.word owned_merged m.0), rest m.1)) × (r ≡ st.first)
