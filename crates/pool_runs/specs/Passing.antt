-- What the bench's test finds of a number.
use Rattle.std.specs.Prelude.{ℤ, int_le, if◌then◌else◌}
use Rattle.par_laws.specs.declared.test.Verdict.{Verdict}
use Rattle.par_laws.specs.declared.test.Verdict.TheVariants.{Pass, Fail}

-- a number passes where it is `least` or more
abbrev pub at_least : ℤ → ℤ → Verdict
at_least least x = if int_le least x then Pass else Fail
