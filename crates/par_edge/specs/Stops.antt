-- What a whole read says of why it stopped.
use Rattle.std.specs.Prelude.{ℕ, List, codes}
use Rattle.par_edge.specs.declared.whole.ReadStop.{ReadStop}
use Rattle.par_edge.specs.declared.whole.ReadStop.TheVariants.{Failed, TooLong, Memory}

-- the text of an error
abbrev pub stop_text : ReadStop → List ℕ
stop_text Failed = codes "read failed"
stop_text TooLong = codes "file too long"
stop_text Memory = codes "out of memory"
