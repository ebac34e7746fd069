use Rattle.std.proofs.Common.{◌≡◌, drop}
use Rattle.std.specs.List.{list_all}
use Rattle.pipe_text.specs.Token.{is_word}
use Rattle.pipe_text.proofs.front.all_words.Given as goal

abbrev pub invariant-loop-c : goal.invariant-loop-c
invariant-loop-c l = list_all is_word (drop l.c-index l.bytes) ≡ list_all is_word l.bytes
