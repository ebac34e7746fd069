-- A writer of `csv` between two records.
use Rattle.std.specs.Prelude.{◌≡◌, ℕ, List, ◌++◌, true, false}
use Rattle.csv.specs.declared.writer.Writer.{Writer}
use Rattle.csv.specs.declared.writer.WriterBuilder.{WriterBuilder}
use Rattle.csv.specs.Writing.{default_writer, fields_written, has_written, with_flexible, writer_pending, writer_setup, writer_under}

-- the default, where records may differ in how many fields they have
abbrev pub row_writer : WriterBuilder
row_writer = with_flexible default_writer true

-- it writes so, and no record is begun
pub record IsBetween {W : Type 0} (w : Writer W) : Type 0 where
  pub setup : writer_setup w ≡ row_writer
  pub fields : fields_written w ≡ 0
  pub wrote : has_written w ≡ false

-- what the writer underneath holds, and what it will be given
abbrev pub all_written : {W : Type 0} → (W → List ℕ) → Writer W → List ℕ
all_written bytes w = bytes (writer_under w) ++ writer_pending w
