-- What the calls of the board leave of what a seat knows.
use Rattle.std.specs.Prelude.{◌≡◌, ◌≢◌, ℕ, ◌+◌, ◌-◌, ◌<◌, ◌≤◌, ◌⊎◌, min, true, false, List, ◌∷◌, []}
use Rattle.par_board.specs.declared.answers.NodeState.{NodeState}
use Rattle.par_board.specs.declared.answers.Claim.{Claim}
use Rattle.par_board.specs.declared.answers.Claim.TheVariants.{Mine, Elsewhere}
use Rattle.par_board.specs.declared.answers.Collect.{Collect}
use Rattle.par_board.specs.declared.answers.Collect.TheVariants.{Got, NotYet}
use Rattle.par_board.specs.Words.{state_of, code}
use Rattle.par_board.specs.Tree.{below, table}
use Rattle.par_board.specs.Seen.{Owned, not_owned, owned_free, owned_open, owned_merged, settled, not_held, held_over, Kind, step_load, step_claim, step_fill, step_offer, step_finish, step_take, step_close, Note, Sight, owns_at, holds_at, all_parts}

-- what two seats own of a node, of which at most one owns it
abbrev pub merge : Owned → Owned → Owned
merge not_owned q = q
merge owned_free q = owned_free
merge (owned_open lo hi f) q = owned_open lo hi f
merge owned_merged q = owned_merged

module _ {F : Type 0} where
  -- one more step is noted: its kind, its node and the word read
  abbrev pub noted : Kind → ℕ → ℕ → Sight F → Sight F
  noted kind k read v = record v { notes = record { kind = kind; node = k; read = read } ∷ v.notes }

  -- a load of the node's word
  abbrev pub looks : ℕ → ℕ → Sight F → Sight F
  looks k read v = noted step_load k read v

  -- the first seat owns all nodes, and stands for all parts
  abbrev pub fresh : F → Sight F
  fresh of = record { of = of; live = true; owns = table (λ _. owned_free); holds = table (λ _. not_held); parts = all_parts; notes = [] }

  -- a seat with two parts or more gives one away at a split; with fewer, both seats are left with none
  abbrev pub left_of : Sight F → Sight F
  left_of v = record v { parts = v.parts - 1 }

  -- the new seat owns and holds nothing, and took no step
  abbrev pub right_of : Sight F → Sight F
  right_of v = record { of = v.of; live = true; owns = table (λ _. not_owned); holds = table (λ _. not_held); parts = min 1 (v.parts - 1); notes = [] }

  -- a seat that another was joined into owns what both did, and stands for the parts of both; the steps of the other are forgotten
  abbrev pub joined : Sight F → Sight F → Sight F
  joined v w = record v { owns = table (λ m. merge (owns_at v m) (owns_at w m)); parts = v.parts + w.parts }

  -- the seat is of the same board and stands for as many parts, and took these steps, the newest first
  pub record Stepped (notes : List Note) (v w : Sight F) : Type 0 where
    pub of : w.of ≡ v.of
    pub parts : w.parts ≡ v.parts
    pub notes_are : w.notes ≡ notes

  -- the seat owns the node k and all nodes below it, all free
  abbrev pub OwnsTree : ℕ → Sight F → Type 0
  OwnsTree k v = (owns_at v k ≡ owned_free) × ((m : ℕ) → m < 2048 → below k m ≡ true → owns_at v m ≡ owned_free)

  -- the seat has opened the node k over lo..hi, and no call of its own is under way there
  abbrev pub HasOpen : ℕ → ℕ → ℕ → Sight F → Type 0
  HasOpen k lo hi v = owns_at v k ≡ owned_open lo hi settled

  -- the seat holds the node k over lo..hi
  abbrev pub Holds : ℕ → ℕ → ℕ → Sight F → Type 0
  Holds k lo hi v = holds_at v k ≡ held_over lo hi false

  -- the seat holds nothing
  abbrev pub HoldsNothing : Sight F → Type 0
  HoldsNothing v = (m : ℕ) → m < 2048 → holds_at v m ≡ not_held

  -- the seat has opened nothing that is not merged
  abbrev pub OpensNothing : Sight F → Type 0
  OpensNothing v = (m : ℕ) → m < 2048 → (owns_at v m ≡ not_owned) ⊎ (owns_at v m ≡ owned_free) ⊎ (owns_at v m ≡ owned_merged)

  -- the seat owns every node, free or merged
  abbrev pub OwnsAll : Sight F → Type 0
  OwnsAll v = (m : ℕ) → m < 2048 → (owns_at v m ≡ owned_free) ⊎ (owns_at v m ≡ owned_merged)

  -- what is owned stays
  abbrev pub OwnsSame : Sight F → Sight F → Type 0
  OwnsSame v w = (m : ℕ) → m < 2048 → owns_at w m ≡ owns_at v m

  -- what is held stays
  abbrev pub HoldsSame : Sight F → Sight F → Type 0
  HoldsSame v w = (m : ℕ) → m < 2048 → holds_at w m ≡ holds_at v m

  -- the node k was offered over lo..hi: its tree is the seat's no more, and it is open
  pub record IsOffered (k lo hi : ℕ) (v w : Sight F) : Type 0 where
    pub opened : HasOpen k lo hi w
    pub gone : (m : ℕ) → m < 2048 → below k m ≡ true → owns_at w m ≡ not_owned
    pub owns : (m : ℕ) → m < 2048 → m ≢ k → below k m ≡ false → owns_at w m ≡ owns_at v m
    pub holds : HoldsSame v w
    pub filling : ℕ
    pub steps : Stepped (record { kind = step_offer; node = k; read = filling } ∷ record { kind = step_fill; node = k; read = 0 } ∷ v.notes) v w

  -- the node k was claimed over lo..hi by the step that read it as Offered: the seat holds it, and owns the nodes below
  pub record IsClaimed (k lo hi : ℕ) (v w : Sight F) : Type 0 where
    pub holds_it : Holds k lo hi w
    pub tree : (m : ℕ) → m < 2048 → below k m ≡ true → owns_at w m ≡ owned_free
    pub owns : (m : ℕ) → m < 2048 → below k m ≡ false → owns_at w m ≡ owns_at v m
    pub holds : (m : ℕ) → m < 2048 → m ≢ k → holds_at w m ≡ holds_at v m
    pub read : ℕ
    pub was_offered : state_of read ≡ 2
    pub after : ℕ
    pub steps : Stepped (record { kind = step_load; node = k; read = after } ∷ record { kind = step_claim; node = k; read = read } ∷ record { kind = step_load; node = k; read = read } ∷ v.notes) v w

  -- a claim's deciding step read another state than Offered: the load, or else the step that would have claimed
  abbrev pub IsElsewhere : ℕ → NodeState → Sight F → Sight F → Type 0
  IsElsewhere k state v w = (read : ℕ) × (code state ≡ state_of read) × (code state ≢ 2) × ((w ≡ looks k read v) ⊎ ((first : ℕ) × (w ≡ noted step_claim k read (looks k first v))))

  -- the node k was finished: the seat holds it no more
  pub record IsFinished (k : ℕ) (v w : Sight F) : Type 0 where
    pub loose : holds_at w k ≡ not_held
    pub holds : (m : ℕ) → m < 2048 → m ≢ k → holds_at w m ≡ holds_at v m
    pub owns : OwnsSame v w
    pub read : ℕ
    pub steps : Stepped (record { kind = step_finish; node = k; read = read } ∷ record { kind = step_load; node = k; read = read } ∷ v.notes) v w

  -- the node k was taken back by the step that read it as Done, and is merged
  pub record IsCollected (k : ℕ) (v w : Sight F) : Type 0 where
    pub merged : owns_at w k ≡ owned_merged
    pub owns : (m : ℕ) → m < 2048 → m ≢ k → owns_at w m ≡ owns_at v m
    pub holds : HoldsSame v w
    pub read : ℕ
    pub was_done : state_of read ≡ 4
    pub merging : ℕ
    pub steps : Stepped (record { kind = step_close; node = k; read = merging } ∷ record { kind = step_take; node = k; read = read } ∷ record { kind = step_load; node = k; read = read } ∷ v.notes) v w

  -- the one step of a collect read Offered or Taken
  abbrev pub IsNotYet : ℕ → Sight F → Sight F → Type 0
  IsNotYet k v w = (read : ℕ) × (2 ≤ state_of read) × (state_of read ≤ 3) × (w ≡ looks k read v)

  -- no other seat is left: the seat stands for all parts and has nothing open, or owns every node
  abbrev pub IsLast : Sight F → Type 0
  IsLast v = ((v.parts ≡ all_parts) × OpensNothing v) ⊎ OwnsAll v

-- the first of a claim that was answered Mine, and the second of one that was answered Elsewhere
abbrev pub MatchClaim : {S : Type 0} → Claim S → (S → Type 0) → (NodeState → Type 0) → Type 0
MatchClaim (Mine split) mine elsewhere = mine split
MatchClaim (Elsewhere state) mine elsewhere = elsewhere state

-- the first of a collect that was answered Got, and the second of one that was answered NotYet
abbrev pub MatchCollect : {P : Type 0} → Collect P → (P → Type 0) → Type 0 → Type 0
MatchCollect (Got part) got not_yet = got part
MatchCollect NotYet got not_yet = not_yet
