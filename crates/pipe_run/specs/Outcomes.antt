-- An outcome's status and the line that is said of it.
use Rattle.std.specs.Prelude.{ℕ, List, [], ◌∷◌, codes, decimal, slice_index_or}
use Rattle.std.specs.List.{concat}
use Rattle.pipe_run.specs.declared.outcome.Counted.{Counted}
use Rattle.pipe_run.specs.declared.outcome.Counted.TheVariants.{PipelineBytes, DataBytes, Records, RangeItems, FlatMapItems, ScanItems}
use Rattle.pipe_run.specs.declared.outcome.Outcome.{Outcome}
use Rattle.pipe_run.specs.declared.outcome.Outcome.TheVariants.{Done, Usage, BadPipeline, BadData, ReadFault, WriteFault, Limit, Memory, Fault}

-- the status of the process
abbrev pub status_of : Outcome → ℕ
status_of Done = 0
status_of Usage = 2
status_of (BadPipeline line kind) = 3
status_of (BadData at kind) = 4
status_of ReadFault = 5
status_of WriteFault = 6
status_of (Limit what count most) = 7
status_of Memory = 8
status_of (Fault stage row kind) = 9

-- the words of the kinds of refusals, from 0 on
abbrev pub pipeline_words : List (List ℕ)
pipeline_words = codes "unbuilt" ∷ codes "utf8" ∷ codes "token" ∷ codes "long" ∷ codes "step" ∷ codes "shape" ∷ codes "number" ∷ codes "depth" ∷ codes "name" ∷ codes "type" ∷ codes "zero" ∷ codes "columns" ∷ codes "steps" ∷ codes "end" ∷ codes "nodata" ∷ []

-- the words of the flaws of a record, of which the first is 1
abbrev pub data_words : List (List ℕ)
data_words = [] ∷ codes "header" ∷ codes "fields" ∷ codes "utf8" ∷ codes "number" ∷ []

-- the words of the faults of a value, of which the first is 1
abbrev pub fault_words : List (List ℕ)
fault_words = [] ∷ codes "zero" ∷ codes "number" ∷ []

-- the word of a kind
abbrev pub word_of : List (List ℕ) → ℕ → List ℕ
word_of words kind = slice_index_or words kind []

-- the words of what a limit counts
abbrev pub counted_words : Counted → List ℕ
counted_words PipelineBytes = codes "pipeline bytes"
counted_words DataBytes = codes "data bytes"
counted_words Records = codes "records"
counted_words RangeItems = codes "range items"
counted_words FlatMapItems = codes "flatMap items"
counted_words ScanItems = codes "scan items"

-- a line that ends with a number and the word of a kind
abbrev pub kind_line : List ℕ → ℕ → List ℕ → List ℕ
kind_line before number word = concat (before ∷ decimal number ∷ codes ": " ∷ word ∷ codes "\n" ∷ [])

-- the line that is said of an outcome, with its line feed
abbrev pub line_of : Outcome → List ℕ
line_of Done = []
line_of Usage = codes "usage: parcoll run PIPE [DATA] [--workers N] [--level N] [--audit] | check PIPE | gen SEED N\n"
line_of (BadPipeline line kind) = kind_line (codes "parcoll: pipeline line ") line (word_of pipeline_words kind)
line_of (BadData at kind) = kind_line (codes "parcoll: data record ") at (word_of data_words kind)
line_of ReadFault = codes "parcoll: read failed\n"
line_of WriteFault = codes "parcoll: write failed\n"
line_of (Limit what count most) = concat (codes "parcoll: limit: " ∷ counted_words what ∷ codes " " ∷ decimal count ∷ codes " over " ∷ decimal most ∷ codes "\n" ∷ [])
line_of Memory = codes "parcoll: out of memory\n"
line_of (Fault stage row kind) = concat (codes "parcoll: stage " ∷ decimal stage ∷ codes " row " ∷ decimal row ∷ codes ": " ∷ word_of fault_words kind ∷ codes "\n" ∷ [])
