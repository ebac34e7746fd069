use Rattle.std.proofs.Common.{◌≡◌, ◌≤◌, drop}
use Rattle.pipe_tokens.specs.Meaning.{capped, value_after}
use Rattle.pipe_tokens.proofs.lexemes.number.Given as goal

abbrev pub invariant-loop-c : goal.invariant-loop-c
invariant-loop-c l = (l.n ≤ 18446744073709551615) × (capped (value_after l.n (drop l.c-index l.digits)) ≡ capped (value_after 0 l.digits))
