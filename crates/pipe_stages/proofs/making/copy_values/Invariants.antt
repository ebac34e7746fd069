use Rattle.std.proofs.Common.{◌≡◌, ◌++◌, take}
use Rattle.pipe_stages.proofs.making.copy_values.Given as goal

-- the first values are copied
abbrev pub invariant-loop-value : goal.invariant-loop-value
invariant-loop-value l = l.values ≡ l.fn.values ++ take l.value-index l.source
