use Rattle.std.proofs.Common.{◌≡◌, drop}
use Rattle.pipe_text.specs.Line.{is_quiet}
use Rattle.pipe_text.proofs.line.quiet.Given as goal

abbrev pub invariant-loop-c : goal.invariant-loop-c
invariant-loop-c l = is_quiet (drop l.c-index l.line) ≡ is_quiet l.line
