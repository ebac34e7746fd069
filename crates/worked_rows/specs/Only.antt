-- One value.
use Rattle.std.specs.Prelude.{ℤ, Bool, false}
use Rattle.std.specs.Ordering.{int_eq}
use Rattle.par_rows.specs.declared.value.Value.{Value}
use Rattle.par_rows.specs.declared.value.Value.TheVariants.{Int, Text}

-- the value is this int
abbrev pub is_int : ℤ → Value → Bool
is_int n (Int v) = int_eq v n
is_int n (Text t) = false
