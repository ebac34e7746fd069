use Rattle.pipe_tokens.proofs.Places.{utf8_at}
use Rattle.pipe_tokens.proofs.lexemes.meanings.Goals as goal

pub meaning-requires : goal.meaning-requires
meaning-requires c = utf8_at c.args.tokens.now c.loop-token.token-index _ c.requires c.loop-token-test.true
