use Rattle.pipe_eval.proofs.Binding.{column_plain}
use Rattle.pipe_eval.proofs.bind.+bind_plain.Goals as goal

pub returns-in-Column : goal.returns-in-Column
returns-in-Column t c = rw c.in-Column.is (column_plain _ _ _ c.place_named.ensures.place (rw c.in-Column.is at c.requires.kind))
