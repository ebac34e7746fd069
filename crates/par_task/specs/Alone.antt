-- The leaves of a run on one thread.
use Rattle.std.specs.Prelude.{◌≡◌, ℕ, ◌+◌, ◌*◌, ◌^◌, ◌≤◌, min, List, [], ◌∷◌, map, length, sum_by, Bool}
use Rattle.std.proofs.Common.{zero, suc}
use Rattle.par_laws.specs.Marks.{stop}
use Rattle.par_task.specs.Marking.{Kind, low_flag, abort_flag, high_flag, no_flag, no_test}
use Rattle.par_task.specs.declared.audit.Leaf.{Leaf}

-- the nodes of the d tails of a chain below a node, the nearest first
abbrev pub tail_nodes : ℕ → ℕ → List ℕ
tail_nodes node zero = []
tail_nodes node (suc d) = (node * 2 ^ (suc d) + 1) ∷ tail_nodes node d

-- the nodes of a chain of d cuts below a node: the head's, and those of the tails
abbrev pub chain_nodes : ℕ → ℕ → List ℕ
chain_nodes node d = (node * 2 ^ d) ∷ tail_nodes node d

-- leaves of one seat, whose turns rise by one from k on
abbrev pub HasTurnsFrom : ℕ → ℕ → List Leaf → Type 0
HasTurnsFrom seat k [] = Unit {0}
HasTurnsFrom seat k (l ∷ ls) = (l.seat ≡ seat) × (l.turn ≡ k) × HasTurnsFrom seat (k + 1) ls

-- the leaves are those of the chain of node 1, all of seat 0 and each run after the one before
pub record IsOneChain (leaves : List Leaf) : Type 0 where
  pub nodes : (d : ℕ) × (d ≤ 10) × (map (λ l. l.node) leaves ≡ chain_nodes 1 d)
  pub turns : HasTurnsFrom 0 0 leaves

-- where a marked item ends the job, the items up to the first marked one were tested, and no more
abbrev pub TestsInAll : Kind → List Bool → List Leaf → Type 0
TestsInAll low_flag marks leaves = sum_by (λ l. l.tested) leaves ≡ min (length marks) (stop marks + 1)
TestsInAll abort_flag marks leaves = sum_by (λ l. l.tested) leaves ≡ min (length marks) (stop marks + 1)
TestsInAll high_flag marks leaves = Unit {0}
TestsInAll no_flag marks leaves = Unit {0}
TestsInAll no_test marks leaves = Unit {0}
