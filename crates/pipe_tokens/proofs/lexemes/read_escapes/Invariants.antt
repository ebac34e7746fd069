use Rattle.std.proofs.Common.{false, string_bytes, chars}
use Rattle.pipe_tokens.specs.Meaning.{unescaped}
use Rattle.pipe_tokens.proofs.Escapes.{Reading}
use Rattle.pipe_tokens.proofs.lexemes.read_escapes.Given as goal

abbrev pub invariant-loop-c : goal.invariant-loop-c
invariant-loop-c l = Reading (string_bytes l.out) l.c-iterator.rest.now l.escaped (unescaped false (chars l.text))
