use Rattle.pipe_lang.proofs.Rounds.{gives}
use Rattle.pipe_lang.proofs.laws.language_laws.Goals as goal

pub returns : goal.returns
returns c = record { round = gives c.text_laws.ensures.unique }
