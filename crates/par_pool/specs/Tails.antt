-- The tails of a chain, as the seat sees them that opens their nodes.
use Rattle.std.specs.Prelude.{◌≡◌, ◌≢◌, ℕ, suc, ◌+◌, ◌*◌, ◌^◌, ◌<◌, ◌≤◌, ◌⊎◌, List, [], ◌∷◌, length, map, true, false}
use Rattle.par_board.specs.Tree.{below}
use Rattle.par_board.specs.Seen.{Owned, not_owned, owned_free, owned_merged, Sight, owns_at}
use Rattle.par_board.specs.Calls.{HasOpen, HoldsSame}
use Rattle.par_task.specs.Alone.{tail_nodes}
use Rattle.par_task.specs.Chains.{Follows}
use Rattle.par_task.specs.Spans.{IsSpan}

-- what is owned of a node waits for nobody
abbrev pub IsShut : Owned → Type 0
IsShut p = (p ≡ not_owned) ⊎ (p ≡ owned_free) ⊎ (p ≡ owned_merged)

-- m is the node of one of the tails of a chain made at k, from the count e on and before d
abbrev pub Pending : ℕ → ℕ → ℕ → ℕ → Type 0
Pending k e d m = (i : ℕ) × (e ≤ i) × (i < d) × (m ≡ k * 2 ^ suc i + 1)

-- the tree below k is free
abbrev pub FreeBelow : {F : Type 0} → ℕ → Sight F → Type 0
FreeBelow k v = (m : ℕ) → m < 2048 → below k m ≡ true → owns_at v m ≡ owned_free

-- an open node was run or waited for, and merged
pub record IsSettled {F : Type 0} (k : ℕ) (v w : Sight F) : Type 0 where
  pub merged : owns_at w k ≡ owned_merged
  pub owns : (m : ℕ) → m < 2048 → m ≢ k → below k m ≡ false → owns_at w m ≡ owns_at v m
  pub shut : (m : ℕ) → m < 2048 → IsShut (owns_at v m) → IsShut (owns_at w m)
  pub holds : HoldsSame v w

module _ {S X : Type 0} (items : S → List X) (lo : S → ℕ) where
  -- tails that a chain at k leaves, over from..hi of the source
  pub record AreTails (source : List X) (k from hi : ℕ) (tails : List (ℕ × S)) : Type 0 where
    pub rest : List X
    pub nodes : map (λ x. x.0) tails ≡ tail_nodes k (length tails)
    pub follows : Follows items lo from rest tails
    pub spans : IsSpan source from rest
    pub ends : from + length rest ≡ hi
    pub small : k * 2 ^ length tails ≤ 2047

  -- each tail is open over its span
  abbrev pub Opens : {F : Type 0} → Sight F → List (ℕ × S) → Type 0
  Opens v [] = Unit {0}
  Opens v (t ∷ ts) = HasOpen t.0 (lo t.1) (lo t.1 + length (items t.1)) v × Opens v ts

  -- the tails were offered: each is open, and nothing else was opened
  pub record AreOffered {F : Type 0} (k : ℕ) (tails : List (ℕ × S)) (v w : Sight F) : Type 0 where
    pub opens : Opens w tails
    pub shut : (m : ℕ) → m < 2048 → IsShut (owns_at v m) → IsShut (owns_at w m) ⊎ Pending k 0 (length tails) m
    pub holds : HoldsSame v w

-- an open node was taken back, after loads of its word
pub record WasCollected {F : Type 0} (k : ℕ) (v w : Sight F) : Type 0 where
  pub merged : owns_at w k ≡ owned_merged
  pub owns : (m : ℕ) → m < 2048 → m ≢ k → owns_at w m ≡ owns_at v m
  pub holds : HoldsSame v w
