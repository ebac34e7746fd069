-- The leaves of a run: where the answer comes from, how they tile the items, and what a seat learns.
use Rattle.std.specs.Prelude.{◌≡◌, ◌≢◌, ℕ, ◌+◌, ◌*◌, ◌/◌, ◌^◌, ◌<◌, ◌≤◌, ◌==◌, cond, min, List, [], ◌∷◌, ◌++◌, map, length, sum_by, Bool}
use Rattle.std.proofs.Common.{zero, suc}
use Rattle.std.specs.List.{Contains, AllPairs}
use Rattle.par_laws.specs.Marks.{IsMarked, stop}
use Rattle.par_task.specs.Marking.{Kind, low_flag, abort_flag, high_flag, no_flag, no_test}
use Rattle.par_task.specs.Leaves.{IsLawful}
use Rattle.par_task.specs.Seats.{IsGreatest}
use Rattle.par_task.specs.declared.audit.Leaf.{Leaf}

-- the numbers of a leaf are lawful
abbrev pub IsLawfulLeaf : Kind → List Bool → Leaf → Type 0
IsLawfulLeaf kind marks l = IsLawful kind marks l.lo l.hi l.flag l.tested

-- a lawful leaf, with a part that is good over its span
pub record IsLeafed {P : Type 0} (kind : Kind) (marks : List Bool) (good : ℕ → ℕ → P → Type 0) (l : Leaf) (part : P) : Type 0 where
  pub lawful_is : IsLawfulLeaf kind marks l
  pub good_is : good l.lo l.hi part

-- the part comes from the leaves: it is that of the one leaf, or the merge of a part that comes from the first leaves and
-- one that comes from the others
pub data Comes {P : Type 0} (leafed : Leaf → P → Type 0) (merges : P → P → P → Type 0) : List Leaf → P → Type 0 where
  one : {l : Leaf} {part : P} → leafed l part → Comes leafed merges (l ∷ []) part
  both :
      {xs ys zs : List Leaf} {a b c : P} →
      Comes leafed merges xs a → Comes leafed merges ys b → merges a b c → zs ≡ xs ++ ys → Comes leafed merges zs c

-- adjacent leaves from lo to hi, none of which is empty
abbrev pub Adjoins : ℕ → ℕ → List Leaf → Type 0
Adjoins lo hi [] = lo ≡ hi
Adjoins lo hi (l ∷ ls) = (l.lo ≡ lo) × (l.lo < l.hi) × Adjoins l.hi hi ls

-- the leaves cover 0..n in order; for no items there is one leaf, of node 1 and over nothing
pub record Covers (n : ℕ) (leaves : List Leaf) : Type 0 where
  pub some : 0 < n → Adjoins 0 n leaves
  pub none : n ≡ 0 → (l : Leaf) × (leaves ≡ l ∷ []) × (l.node ≡ 1) × (l.lo ≡ 0) × (l.hi ≡ 0)

-- the turns of each seat are 0, 1, 2, .. without a gap, and each stands once
pub record HasTurns (leaves : List Leaf) : Type 0 where
  pub no_gap : (a : Leaf) → Contains leaves a → (k : ℕ) → k < a.turn → (b : Leaf) × Contains leaves b × (b.seat ≡ a.seat) × (b.turn ≡ k)
  pub once : (a b : Leaf) → Contains leaves a → Contains leaves b → a.seat ≡ b.seat → a.turn ≡ b.turn → a ≡ b

-- the leaves of a run by so many seats tile 0..n, where a leaf has mostly at most t items
pub record Tiles (n t seats : ℕ) (leaves : List Leaf) : Type 0 where
  pub covers : Covers n leaves
  pub many : t < n → 1 < length leaves
  pub nodes : (a : Leaf) → Contains leaves a → (1 ≤ a.node) × (a.node ≤ 2047)
  pub distinct : AllPairs (λ a b. a.node ≢ b.node) leaves
  pub each_seat : (a : Leaf) → Contains leaves a → a.seat < seats
  pub turns : HasTurns leaves

-- what the later of two leaves of one seat heeds of the earlier
abbrev pub Learns : Kind → List Bool → Leaf → Leaf → Type 0
Learns low_flag marks a b = (s : ℕ) → s + 1 ≡ a.lo + a.tested → a.lo ≤ s → IsMarked marks s → b.flag ≤ s
Learns abort_flag marks a b = (s : ℕ) → s + 1 ≡ a.lo + a.tested → a.lo ≤ s → IsMarked marks s → b.flag ≤ s
Learns high_flag marks a b = 0 < a.tested → (i : ℕ) → IsGreatest marks a.lo (a.lo + a.tested) i → i + 1 ≤ b.flag
Learns no_flag marks a b = Unit {0}
Learns no_test marks a b = Unit {0}

-- no seat looks past what it found itself
abbrev pub IsIdle : Kind → List Bool → List Leaf → Type 0
IsIdle kind marks leaves = (a b : Leaf) → Contains leaves a → Contains leaves b → a.seat ≡ b.seat → a.turn < b.turn → Learns kind marks a b

-- what an audit says: each leaf is lawful, the leaves tile the items, and no seat looks past what it found
pub record IsAudit (kind : Kind) (marks : List Bool) (n t seats : ℕ) (leaves : List Leaf) : Type 0 where
  pub lawful : (a : Leaf) → Contains leaves a → IsLawfulLeaf kind marks a
  pub tiles : Tiles n t seats leaves
  pub idle : IsIdle kind marks leaves

-- how many items a leaf has at most, while there are numbers for its parts
abbrev pub threshold_of : ℕ → ℕ → ℕ
threshold_of n level = cond (level == 1) n (1 + n / (8 * level))
