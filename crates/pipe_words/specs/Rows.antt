-- What the matches of clap stand for.
use Rattle.std.specs.Prelude.{Bool, true, false, List, [], Option, codes, unwrap_or}
use Rattle.clap.specs.Words.{Row, all_of, first_of}
use Rattle.pipe_words.specs.Commands.{Asked, asked}
use Rattle.pipe_words.specs.Parts.{Text}

-- how clap writes a flag
abbrev pub flag_text : Bool → Text
flag_text true = codes "true"
flag_text false = codes "false"

abbrev pub asked_by_rows : List Row → Bool → Option Asked
asked_by_rows rows audit = asked (unwrap_or (all_of (codes "word") rows) []) (first_of (codes "workers") rows) (first_of (codes "level") rows) audit
