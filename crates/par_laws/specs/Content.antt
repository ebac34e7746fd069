-- The bytes of a text, wherever they lie.
use Rattle.std.specs.Prelude.{ℕ, List}
use Rattle.std.specs.String.{string_bytes}
use Rattle.par_laws.specs.declared.words.content.Content.{Content}
use Rattle.par_laws.specs.declared.words.content.Content.TheVariants.{Inline, Spilled}

abbrev pub bytes_of : Content → List ℕ
bytes_of (Inline text) = text.bytes
bytes_of (Spilled text) = string_bytes text
