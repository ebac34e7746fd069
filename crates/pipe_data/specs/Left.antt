-- What a reader over a text in memory has still to give.
use Rattle.std.specs.Prelude.{◌≡◌, ◌+◌, ℕ, Bool, true, false, List, [], ◌∷◌, length, Option, Some, None}
use Rattle.std.specs.Borrow.{Bor}
use Rattle.csv.specs.Reading.{Ready, default_config, records_from, source_of}
use Rattle.csv.specs.declared.parser.State.{State}
use Rattle.csv.specs.declared.reader.Reader.{Reader}
use Rattle.csv.specs.declared.reader.Trim.TheVariants as trim

-- the bytes that it has still to read
abbrev pub source : Reader (Bor (List ℕ)) → Option (List ℕ)
source s = source_of (λ b. Some b.now) s

-- it reads by the default format, gives each record, and hasn't failed
pub record IsPlain (s : Reader (Bor (List ℕ))) : Type 0 where
  pub plain : s.trim ≡ trim.None
  pub ready : Ready s
  pub format : s.config ≡ default_config
  pub bytes : List ℕ
  pub goes : source s ≡ Some bytes

abbrev pub left_of : State → Option (List ℕ) → List (List (List ℕ))
left_of state None = []
left_of state (Some bytes) = records_from default_config (length bytes + 1) state bytes

-- the records that it has still to give
abbrev pub left : Reader (Bor (List ℕ)) → List (List (List ℕ))
left s = left_of s.state (source s)

-- what a read says of the records that are left before and after it
abbrev pub IsNext : Bool → List (List ℕ) → List (List (List ℕ)) → List (List (List ℕ)) → Type 0
IsNext true fields before after = before ≡ fields ∷ after
IsNext false fields before after = before ≡ []
