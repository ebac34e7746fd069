-- Hash: the hashes of keys, and the mix of a hash's bits. A hash is below 2 ^ 32.
use Rattle.std.specs.Prelude.{ℕ, ◌+◌, ◌*◌, ◌/◌, ◌%◌, ◌^◌, List, bit_xor, fold, ℤ, encode_utf8_all}
use Rattle.std.specs.Int.{cast_unsigned, w64}

-- the low 32 bits of the number's pattern, and its high 32 bits, by exclusive or
unfoldable pub int_hash : ℤ → ℕ
int_hash z = bit_xor (cast_unsigned w64 z % 2 ^ 32) (cast_unsigned w64 z / 2 ^ 32)

-- one more byte
abbrev pub hash_step : ℕ → ℕ → ℕ
hash_step hash byte = (31 * hash + byte) % 2 ^ 32

-- from 0, one byte of the text after the other
abbrev pub text_hash : List ℕ → ℕ
text_hash text = fold hash_step 0 (encode_utf8_all text)

-- the hash times an odd number, and its high bits laid over its low ones
unfoldable pub mixed : ℕ → ℕ
mixed hash = let product = hash * 2654435761 % 2 ^ 32 in bit_xor product (product / 2 ^ 15)
