use Rattle.std.proofs.Common.{rules}
use Rattle.std.proofs.lemmas.Str.{chars-nil}
use Rattle.pipe_stages.proofs.splitting.text_at.Goals as goal

pub returns-in_default : goal.returns-in_default
returns-in_default c = search (rules, chars-nil)
