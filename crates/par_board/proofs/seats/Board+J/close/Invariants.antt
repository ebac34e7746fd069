use Rattle.std.proofs.Common.{◌-◌, ◌≡◌, ◌≤◌, ℕ, ◌<◌, true, false, get_or}
use Rattle.par_board.specs.Ends.{Ended}
use Rattle.par_board.proofs.seats.Board+J.close.Given as goal

abbrev pub invariant-loop-k : goal.invariant-loop-k
invariant-loop-k g l =
    (l.closed.words.len ≡ 2048) × (l.closed.slots.len ≡ 2048)
    × ((k : ℕ) → k < 2048 → get_or l.closed.words.filled k false ≡ true)
    × ((k : ℕ) → l.k ≤ k → k < 2048 → get_or l.closed.slots.filled k false ≡ true)
    × ((k : ℕ) → k < l.k → get_or l.closed.slots.filled k false ≡ false)
    × Ended l.closed.words.items l.closed.slots.items

abbrev pub decreases-loop-k : goal.decreases-loop-k
decreases-loop-k g l = 2048 - l.k
