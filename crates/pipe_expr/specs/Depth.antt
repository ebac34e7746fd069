-- Depth: how deep an expression is.
use Rattle.std.specs.Prelude.{◌+◌, ◌||◌, ℕ, zero, suc, max, Bool, true, false}
use Rattle.pipe_expr.specs.Grammar.{Tree, Number, Texted, Named, Length, Valued, Inside, Negated, Joined}

-- an int, a text or a name has 1, and each form around others one more than the deepest of them
abbrev pub depth : Tree → ℕ
depth (Number z) = 1
depth (Texted s) = 1
depth (Named w) = 1
depth (Length e) = depth e + 1
depth (Valued e) = depth e + 1
depth (Inside e) = depth e + 1
depth (Negated e) = depth e + 1
depth (Joined op a b) = max (depth a) (depth b) + 1

-- whether it is deeper than this, looking no deeper
unfoldable pub over : ℕ → Tree → Bool
over zero e = true
over (suc n) (Number z) = false
over (suc n) (Texted s) = false
over (suc n) (Named w) = false
over (suc n) (Length e) = over n e
over (suc n) (Valued e) = over n e
over (suc n) (Inside e) = over n e
over (suc n) (Negated e) = over n e
over (suc n) (Joined op a b) = over n a || over n b
