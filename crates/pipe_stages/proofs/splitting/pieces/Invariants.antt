use Rattle.std.proofs.Common.{◌≡◌, ◌++◌, map, length}
use Rattle.std.specs.Str.{IsUtf8, chars}
use Rattle.pipe_stages.specs.Pieces.{pieces}
use Rattle.pipe_stages.proofs.splitting.pieces.Given as goal

-- the pieces so far, and those of what is left
abbrev pub invariant-loop-piece : goal.invariant-loop-piece
invariant-loop-piece l = record {
  cut : map (λ p. chars p.now) l.all.items ++ pieces (chars l.separator) (chars l.rest) ≡ pieces (chars l.separator) (chars l.text);
  left : IsUtf8 l.rest;
}

abbrev pub decreases-loop-piece : goal.decreases-loop-piece
decreases-loop-piece l = length l.rest
