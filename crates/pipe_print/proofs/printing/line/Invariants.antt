use Rattle.std.proofs.Common.{◌≡◌, ◌++◌, map, take}
use Rattle.pipe_print.specs.Items.{spaced}
use Rattle.pipe_print.specs.Lines.{parts_items, piece}
use Rattle.pipe_print.proofs.printing.line.Given as goal

abbrev pub invariant-loop-one : goal.invariant-loop-one
invariant-loop-one l = l.out.items ≡ l.initial.out.items ++ spaced l.version (parts_items (map piece (take l.one-index l.pieces)))
