-- What the bench's test and mappers find of a number.
use Rattle.std.specs.Prelude.{ℤ, int_le, if◌then◌else◌}
use Rattle.par_laws.specs.Wrapping.{wrapped_product}
use Rattle.par_laws.specs.declared.test.Verdict.{Verdict}
use Rattle.par_laws.specs.declared.test.Verdict.TheVariants.{Pass, Fail}

-- a number passes where it is `least` or more
abbrev pub at_least : ℤ → ℤ → Verdict
at_least least x = if int_le least x then Pass else Fail

-- the cube of a number, wrapped
abbrev pub stirred : ℤ → ℤ
stirred x = wrapped_product (wrapped_product x x) x

-- a number stirred four times
abbrev pub stirred_more : ℤ → ℤ
stirred_more x = stirred (stirred (stirred (stirred x)))

-- a number stirred 32 times
abbrev pub churned : ℤ → ℤ
churned x = stirred_more (stirred_more (stirred_more (stirred_more (stirred_more (stirred_more (stirred_more (stirred_more x)))))))
