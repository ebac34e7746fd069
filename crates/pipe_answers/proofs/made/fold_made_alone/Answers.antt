use Rattle.std.proofs.Common.{refl}
use Rattle.pipe_answers.proofs.made.fold_made_alone.Goals as goal

pub value_of-requires : goal.value_of-requires
value_of-requires g c = λ k. ((refl, tt), (c.requires.small, rw c.new-source.ensures.list at c.in_ok-folded.ensures.answer))
