-- How a job is run, and what its audit then says.
use Rattle.std.specs.Prelude.{◌≡◌, ℕ, ◌≤◌, List, Bool}
use Rattle.par_task.specs.Marking.{Kind}
use Rattle.par_task.specs.Audits.{IsAudit, threshold_of}
use Rattle.par_task.specs.Alone.{IsOneChain, TestsInAll}
use Rattle.par_task.specs.declared.audit.Leaf.{Leaf}

-- by how many workers a job is run, and how finely it is cut
pub record Manner : Type 0 where
  pub workers : ℕ
  pub level : ℕ

-- by the caller's thread alone
abbrev pub alone : ℕ → Manner
alone level = record { workers = 1; level = level }

-- both are 1 to 64
abbrev pub IsManner : Manner → Type 0
IsManner manner = (1 ≤ manner.workers) × (manner.workers ≤ 64) × (1 ≤ manner.level) × (manner.level ≤ 64)

-- The leaves of a run over n items with these marks: each is lawful, they tile the items, and no seat looks past what it
-- found. Those of one worker are the chain of node 1, and they made no test past the first marked item where that ends the
-- job.
pub record IsRunBy (manner : Manner) (kind : Kind) (marks : List Bool) (n : ℕ) (leaves : List Leaf) : Type 0 where
  pub audit : IsAudit kind marks n (threshold_of n manner.level) manner.workers leaves
  pub chain : manner.workers ≡ 1 → IsOneChain leaves
  pub tested : manner.workers ≡ 1 → TestsInAll kind marks leaves
