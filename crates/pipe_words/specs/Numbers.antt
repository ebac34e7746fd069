-- The numbers of workers and levels.
use Rattle.std.specs.Prelude.{ℕ, ◌&&◌, List, length, nat_le, Option, Some, None, if◌then◌else◌}
use Rattle.std.specs.Str.{all_ascii_digits}
use Rattle.std.specs.Str.Parse.{digits_value}

-- from 1 to 64
abbrev pub limited : ℕ → Option ℕ
limited n = if nat_le 1 n && nat_le n 64 then Some n else None

-- one or two digits, of a number from 1 to 64
abbrev pub number_of : List ℕ → Option ℕ
number_of text = if nat_le (length text) 2 && all_ascii_digits text then limited (digits_value 10 text) else None

-- the number of an option's text, or the fallback where the option isn't given
abbrev pub number_or : ℕ → Option (List ℕ) → Option ℕ
number_or fallback None = Some fallback
number_or fallback (Some text) = number_of text
