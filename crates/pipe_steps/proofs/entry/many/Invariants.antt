use Rattle.std.proofs.Common.{◌≡◌, ◌≤◌, ℕ, length, map}
use Rattle.pipe_expr.specs.Reading.{◌>>=◌}
use Rattle.pipe_steps.specs.Reading.{many}
use Rattle.pipe_steps.proofs.Lists.{behind}
use Rattle.pipe_steps.proofs.entry.many.Given as goal

abbrev pub invariant-loop-all : goal.invariant-loop-all
invariant-loop-all g l = (n : ℕ) × (length l.rest ≤ n) × ((many g.E.Entry.at n l.rest >>= behind (map g.E.Entry.seen l.all.items)) ≡ many g.E.Entry.at (length l.tokens) l.tokens)

abbrev pub decreases-loop-all : goal.decreases-loop-all
decreases-loop-all g l = length l.rest
