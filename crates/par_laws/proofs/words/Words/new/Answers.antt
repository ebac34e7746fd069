use Rattle.std.proofs.lemmas.Str.{chars-nil}
use Rattle.par_laws.proofs.words.Words.new.Goals as goal

pub returns : goal.returns
returns c = rw (c.empty.ensures) chars-nil
