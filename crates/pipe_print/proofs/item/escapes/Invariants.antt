use Rattle.std.proofs.Common.{◌≡◌, ◌++◌, take}
use Rattle.pipe_print.specs.Items.{escaped}
use Rattle.pipe_print.proofs.item.escapes.Given as goal

abbrev pub invariant-loop-c : goal.invariant-loop-c
invariant-loop-c l = l.out.items ≡ l.initial.out.items ++ escaped (take l.c-index l.text)
