-- What contracts see of a shelf and of a sink in memory, and what their calls answer.
use Rattle.std.specs.Prelude.{◌≡◌, ℕ, ◌+◌, ◌-◌, ◌<◌, ◌≤◌, ◌⊎◌, List, ◌++◌, length, take, min, Some, None, Result, Ok, Err, Contains}
use Rattle.par_edge.specs.Count.{raised}
use Rattle.par_edge.specs.Files.{File, file_of}
use Rattle.par_edge.specs.Shelves.{ShelfState}
use Rattle.par_edge.specs.Sinks.{SinkState}

-- a shelf in memory: its files, how many bytes it gives a call at most, the numbers of the calls that fail, and its counts of calls, of faults and of bytes given
pub record FilesInMemory : Type 0 where
  pub files : List File
  pub piece : ℕ
  pub failing : List ℕ
  pub calls : ℕ
  pub faults : ℕ
  pub given : ℕ

-- a shelf in memory tells its files
abbrev pub shelf_state : FilesInMemory → ShelfState
shelf_state shelf = record { files = Some shelf.files; faults = shelf.faults; given = shelf.given }

-- the next read fails: its number is in the list, or no file has this name
abbrev pub ReadFails : FilesInMemory → List ℕ → Type 0
ReadFails shelf name = Contains shelf.failing (shelf.calls + 1) ⊎ (file_of shelf.files name ≡ None)

-- how many bytes come: what is left of the file, as far as the buffer and the piece allow
abbrev pub given_size : FilesInMemory → List ℕ → ℕ → ℕ → ℕ
given_size shelf file start room = min (length file - start) (min room shelf.piece)

-- the shelf after a read: one call more, and one fault or these bytes given more
abbrev pub after_read : {E : Type 0} → FilesInMemory → Result ℕ E → FilesInMemory
after_read shelf (Ok count) = record shelf { calls = raised shelf.calls 1; given = raised shelf.given count }
after_read shelf (Err _) = record shelf { calls = raised shelf.calls 1; faults = raised shelf.faults 1 }

-- a sink in memory: the bytes written, the room for them, how many it takes a call at most, the numbers of the calls that fail, and its counts of calls and of faults
pub record BytesInMemory : Type 0 where
  pub written : List ℕ
  pub room : ℕ
  pub piece : ℕ
  pub failing : List ℕ
  pub calls : ℕ
  pub faults : ℕ

-- a sink in memory tells its bytes
abbrev pub sink_state : BytesInMemory → SinkState
sink_state sink = record { written = Some sink.written; faults = sink.faults }

-- the next write fails: its number is in the list, or there is a piece and no room is left
abbrev pub WriteFails : BytesInMemory → List ℕ → Type 0
WriteFails sink piece = Contains sink.failing (sink.calls + 1) ⊎ ((0 < length piece) × (sink.room ≤ length sink.written))

-- how many bytes are taken: as many of the piece as the room left and the most for a call allow
abbrev pub taken_size : BytesInMemory → List ℕ → ℕ
taken_size sink piece = min (length piece) (min sink.piece (sink.room - length sink.written))

-- the sink after a write: one call more, and one fault more or these bytes appended
abbrev pub after_write : {E : Type 0} → BytesInMemory → List ℕ → Result ℕ E → BytesInMemory
after_write sink piece (Ok count) = record sink { written = sink.written ++ take count piece; calls = raised sink.calls 1 }
after_write sink piece (Err _) = record sink { calls = raised sink.calls 1; faults = raised sink.faults 1 }
