-- Wrapping: the sum, the product and the count of 64 bits. Each is the number in the type's range that differs from the
-- true result by a multiple of 2 ^ 64.
use Rattle.std.specs.Prelude.{ℕ, ◌+◌, ◌%◌, ◌^◌, ℤ, ◌+ℤ◌, ◌*ℤ◌}
use Rattle.std.specs.Int.{int_wrap, w64}

abbrev pub wrapped_sum : ℤ → ℤ → ℤ
wrapped_sum a b = int_wrap w64 (a +ℤ b)

abbrev pub wrapped_product : ℤ → ℤ → ℤ
wrapped_product a b = int_wrap w64 (a *ℤ b)

abbrev pub wrapped_count : ℕ → ℕ → ℕ
wrapped_count a b = (a + b) % 2 ^ 64
