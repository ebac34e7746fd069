-- Divisor: what version 1 asks of divisors. Version 2 takes any number there.
use Rattle.std.specs.Prelude.{◌&&◌, Bool, true, false}
use Rattle.pipe_expr.specs.declared.expr.Op.{Op}
use Rattle.pipe_expr.specs.declared.expr.Op.TheVariants as o
use Rattle.pipe_expr.specs.Grammar.{Tree, Number, Texted, Named, Length, Valued, Inside, Negated, Joined}

abbrev pub is_int : Tree → Bool
is_int (Number z) = true
is_int _ = false

-- behind `/` and `%` stands an int
abbrev pub right_fits : Op → Tree → Bool
right_fits o.Divide e = is_int e
right_fits o.Remainder e = is_int e
right_fits _ e = true

-- each divisor is an int, at any depth
abbrev pub divides_by_ints : Tree → Bool
divides_by_ints (Number z) = true
divides_by_ints (Texted s) = true
divides_by_ints (Named w) = true
divides_by_ints (Length e) = divides_by_ints e
divides_by_ints (Valued e) = divides_by_ints e
divides_by_ints (Inside e) = divides_by_ints e
divides_by_ints (Negated e) = divides_by_ints e
divides_by_ints (Joined op a b) = divides_by_ints a && (divides_by_ints b && right_fits op b)
