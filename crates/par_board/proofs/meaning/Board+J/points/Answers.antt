use Rattle.par_board.proofs.Pointing.{points}
use Rattle.par_board.proofs.meaning.Board+J.points.Goals as goal

pub returns : goal.returns
returns g c = λ s r. points _ _ s r
