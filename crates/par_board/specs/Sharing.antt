-- A job in two nodes, 1 and 3, as two seats of the tests share them.
use Rattle.std.specs.Prelude.{◌≡◌, ◌≢◌, ℕ, ◌+◌, ◌<◌, ◌⊎◌, false, List, slice_index_or}
use Rattle.par_board.specs.Seen.{Owned, not_owned, owned_free, owned_open, owned_merged, settled, Held, not_held, held_over}

-- what is owned of a node waits for nobody
abbrev pub Settled : Owned → Type 0
Settled p = (p ≡ not_owned) ⊎ (p ≡ owned_free) ⊎ (p ≡ owned_merged)

-- nothing but the nodes 1 and 3 is open
abbrev pub OnlyTwo : List Owned → Type 0
OnlyTwo owns = (m : ℕ) → m < 2048 → m ≢ 1 → m ≢ 3 → Settled (slice_index_or owns m not_owned)

-- the node k is open
abbrev pub IsOpen : ℕ → List Owned → Type 0
IsOpen k owns = (lo : ℕ) × (hi : ℕ) × (slice_index_or owns k not_owned ≡ owned_open lo hi settled)

-- the node k is held, over so many items
abbrev pub IsHeld : ℕ → ℕ → List Held → Type 0
IsHeld k count holds = (lo : ℕ) × (hi : ℕ) × (slice_index_or holds k not_held ≡ held_over lo hi false) × (lo + count ≡ hi)

-- both nodes are open, and the seat holds the first
pub record HasCut (count : ℕ) (owns : List Owned) (holds : List Held) : Type 0 where
  pub first_open : IsOpen 1 owns
  pub second_open : IsOpen 3 owns
  pub held : IsHeld 1 count holds
  pub rest : OnlyTwo owns

-- the second is merged
pub record HasHalf (count : ℕ) (owns : List Owned) (holds : List Held) : Type 0 where
  pub first_open : IsOpen 1 owns
  pub merged : slice_index_or owns 3 not_owned ≡ owned_merged
  pub held : IsHeld 1 count holds
  pub rest : OnlyTwo owns

-- both are merged
pub record HasWhole (owns : List Owned) : Type 0 where
  pub first : slice_index_or owns 1 not_owned ≡ owned_merged
  pub second : slice_index_or owns 3 not_owned ≡ owned_merged
  pub rest : OnlyTwo owns

-- the seat holds the second node alone
pub record HasSecond (count : ℕ) (owns : List Owned) (holds : List Held) : Type 0 where
  pub held : IsHeld 3 count holds
  pub rest : OnlyTwo owns
  pub alone : (m : ℕ) → m < 2048 → m ≢ 3 → slice_index_or holds m not_held ≡ not_held
