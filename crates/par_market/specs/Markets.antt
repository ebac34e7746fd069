-- Counts of a seat by queue.
use Rattle.std.specs.Prelude.{◌≢◌, ℕ, ◌≤◌, ◌<◌}
use Rattle.par_edge.specs.Count.{Rose}

-- no count fell
abbrev pub NoneFell : (ℕ → ℕ) → (ℕ → ℕ) → Type 0
NoneFell old new = (k : ℕ) → old k ≤ new k

-- no count fell, and those of the queues from lo up to hi rose, but for one
abbrev pub AreEmpty : ℕ → ℕ → ℕ → (ℕ → ℕ) → (ℕ → ℕ) → Type 0
AreEmpty but lo hi old new = NoneFell old new × ((k : ℕ) → lo ≤ k → k < hi → k ≢ but → Rose (old k) (new k))
