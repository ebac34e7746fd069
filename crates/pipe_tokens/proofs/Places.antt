-- The tokens of a line, one by one.
use Rattle.std.proofs.Common.{◌<◌, ◌∷◌, ℕ, zero, suc, List, [], length, get_or, arith, IsUtf8}
use Rattle.pipe_text.specs.declared.lexeme.Lexeme.{Lexeme}
use Rattle.pipe_text.specs.Line.{AreUtf8, inside}
use Rattle.pipe_text.specs.Token.{view, views}

pub utf8_at : (ts : List Lexeme) (i : ℕ) (d : Lexeme) → AreUtf8 (views ts) → i < length ts → IsUtf8 (inside (view (get_or ts i d)))
utf8_at [] i d u lt = absurd (omega (arith, lt))
utf8_at (t ∷ ts) zero d u lt = u.0
utf8_at (t ∷ ts) (suc i) d u lt = utf8_at ts i d u.1 (omega (arith, lt))
