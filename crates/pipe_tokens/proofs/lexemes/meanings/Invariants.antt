use Rattle.std.proofs.Common.{◌≡◌, take}
use Rattle.pipe_text.specs.Token.{views}
use Rattle.pipe_tokens.specs.Meaning.{all_meant}
use Rattle.pipe_tokens.proofs.lexemes.meanings.Given as goal

abbrev pub invariant-loop-token : goal.invariant-loop-token
invariant-loop-token l = l.all.items ≡ all_meant l.version (views (take l.token-index l.tokens))
