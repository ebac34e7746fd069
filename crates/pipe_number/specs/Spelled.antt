-- The number that a text spells.
use Rattle.std.specs.Prelude.{◌&&◌, ◌==◌, ◌+◌, ◌*◌, ◌-◌, ◌^◌, min, nat_lt, ℕ, ℤ, Bool, true, false, List, length, drop, Option, Some, None, if◌then◌else◌}
use Rattle.std.specs.List.{list_all}
use Rattle.std.specs.Char.{is_ascii_digit}
use Rattle.std.specs.Str.Parse.{digits_value, starts_with_minus}
use Rattle.pipe_expr.specs.Grammar.{int_of}
use Rattle.pipe_number.specs.declared.spelling.Spelling.{Spelling}
use Rattle.pipe_number.specs.declared.spelling.Spelling.TheVariants as s

-- one or more ASCII digits
abbrev pub are_digits : List ℕ → Bool
are_digits ds = nat_lt 0 (length ds) && list_all is_ascii_digit ds

-- the number that digits spell, perhaps after a minus, where it is within 64 bits
abbrev pub signed : Bool → List ℕ → Option ℤ
signed negative ds = if are_digits ds then int_of negative (digits_value 10 ds) else None

-- the number that the bytes of a text spell: perhaps a minus, and one or more digits
abbrev pub spelled : List ℕ → Option ℤ
spelled bytes = if starts_with_minus bytes then signed true (drop 1 bytes) else signed false bytes

-- ---- the same, a byte at a time

-- one more digit, where 2^64 - 1 stands for each greater number
abbrev pub more_digits : Bool → ℕ → ℕ → Spelling
more_digits negative magnitude byte = if is_ascii_digit byte then s.Digits negative (min (min (magnitude * 10) (2 ^ 64 - 1) + (byte - 48)) (2 ^ 64 - 1)) else s.Wrong

-- what is known after one more byte
abbrev pub next : Spelling → ℕ → Spelling
next s.Empty byte = if byte == 45 then s.Signed else more_digits false 0 byte
next s.Signed byte = more_digits true 0 byte
next (s.Digits negative magnitude) byte = more_digits negative magnitude byte
next s.Wrong byte = s.Wrong

-- the number, once all bytes came
abbrev pub number : Spelling → Option ℤ
number (s.Digits negative magnitude) = int_of negative magnitude
number _ = None
