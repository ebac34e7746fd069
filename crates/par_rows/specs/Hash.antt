-- Hash: the hashes of values and of rows, each below 2 ^ 32.
use Rattle.std.specs.Prelude.{ℕ, List, fold}
use Rattle.par_laws.specs.Hash.{hash_step, int_hash, text_hash}
use Rattle.par_rows.specs.declared.value.Value.{Value}
use Rattle.par_rows.specs.declared.value.Value.TheVariants as v
use Rattle.par_rows.specs.declared.row.Row.{Row}

-- the hash of the number or of the text
abbrev pub value_hash : Value → ℕ
value_hash (v.Int z) = int_hash z
value_hash (v.Text w) = text_hash w

-- from 0, one value after the other
abbrev pub values_hash : List Value → ℕ
values_hash values = fold (λ hash value. hash_step hash (value_hash value)) 0 values

abbrev pub row_hash : Row → ℕ
row_hash r = values_hash r.values
