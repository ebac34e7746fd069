use Rattle.std.proofs.Common.{rules}
use Rattle.std.proofs.lemmas.Str.{chars-nil}
use Rattle.pipe_eval.proofs.text.text_held.Goals as goal

pub returns-in_default-clause-characters : goal.returns-in_default-clause-characters
returns-in_default-clause-characters c = search (rules, chars-nil)
