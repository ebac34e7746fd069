use Rattle.std.proofs.Common.{◌≡◌, ◌++◌, take}
use Rattle.std.specs.List.{flat_map}
use Rattle.pipe_answers.specs.AuditTexts.{leaf_text}
use Rattle.pipe_answers.proofs.audits.add_leaves.Given as goal

abbrev pub invariant-loop-leaf : goal.invariant-loop-leaf
invariant-loop-leaf l = l.text.items ≡ l.fn.text.items ++ flat_map leaf_text (take l.leaf-index l.leaves)
