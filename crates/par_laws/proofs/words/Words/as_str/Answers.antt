use Rattle.std.proofs.Common.{sym}
use Rattle.std.proofs.lemmas.Str.{IsUtf8-had, encodes-chars, scalars-chars}
use Rattle.par_laws.proofs.words.Words.as_str.Goals as goal

pub returns-clause-bytes : goal.returns-clause-bytes
returns-clause-bytes c =
    rw (← c.self.view_is, c.as_str.ensures) (sym (encodes-chars _ (IsUtf8-had _ c.self.invariant)))

pub returns-clause-scalars : goal.returns-clause-scalars
returns-clause-scalars c = rw (← c.self.view_is) (scalars-chars _ (IsUtf8-had _ c.self.invariant))
