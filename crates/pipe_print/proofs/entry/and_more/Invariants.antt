use Rattle.std.proofs.Common.{◌≡◌, ◌++◌, ◌∷◌, take}
use Rattle.std.specs.List.{flat_map}
use Rattle.pipe_text.specs.declared.lexeme.Symbol.TheVariants as m
use Rattle.pipe_print.specs.Items.{Mark, spaced}
use Rattle.pipe_print.proofs.entry.and_more.Given as goal

abbrev pub invariant-loop-one : goal.invariant-loop-one
invariant-loop-one g l = l.out.items ≡ l.initial.out.items ++ spaced l.version (flat_map (λ y. Mark m.Comma ∷ g.E.Entry.items y) (take l.one-index l.rest))
