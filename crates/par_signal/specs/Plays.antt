-- What each step tells the seat that takes it.
use Rattle.std.specs.Prelude.{◌≡◌, ℕ, ◌-◌, List, Bool}
use Rattle.atomic_table.specs.Table.{Me, Step}
use Rattle.par_signal.specs.declared.abort.Abort.{Abort}
use Rattle.par_signal.specs.Values.{abort_of}
use Rattle.par_signal.specs.Seen.{Sight}
use Rattle.par_signal.specs.Calls.{ReadsLow, ReadsHigh, ReadsAbort, sees_low, sees_high, sees_abort, lowers, raises, aborts, aborts_memory, left_of, right_of, joined}
use Rattle.par_signal.specs.Rule.{Known}

-- a seat with its view; it holds no slot
abbrev pub Seated : Type 0
Seated = Me (Unit {0}) Known

-- the seat has seen w now, and is live as before
abbrev pub SeesNow : Seated → Sight (List Bool) → Seated → Type 0
SeesNow m w m' = m' ≡ (record m.0 { seen = w }, m.1)

-- a step on low: x is what it read, and w what it leaves as seen
abbrev pub OnLow : (ℕ → Sight (List Bool)) → Step (Unit {0}) → Seated → ℕ → Seated → Type 0
OnLow w st m x m' = (st.word ≡ 0) × ReadsLow m.0.seen.of m.0.seen x × SeesNow m (w x) m'

-- the same on high
abbrev pub OnHigh : (ℕ → Sight (List Bool)) → Step (Unit {0}) → Seated → ℕ → Seated → Type 0
OnHigh w st m x m' = (st.word ≡ 1) × ReadsHigh m.0.seen.of m.0.seen x × SeesNow m (w x) m'

-- the same on abort, whose word x stands for what is read
abbrev pub OnAbort : (Abort → Sight (List Bool)) → Step (Unit {0}) → Seated → ℕ → Seated → Type 0
OnAbort w st m x m' = (st.word ≡ 2) × ReadsAbort m.0.seen.of m.0.seen (abort_of x) × SeesNow m (w (abort_of x)) m'

-- loads of the three words
abbrev pub loaded_low : Step (Unit {0}) → Seated → ℕ → Seated → Type 0
loaded_low st m = OnLow (sees_low m.0.seen) st m

abbrev pub loaded_high : Step (Unit {0}) → Seated → ℕ → Seated → Type 0
loaded_high st m = OnHigh (sees_high m.0.seen) st m

abbrev pub loaded_abort : Step (Unit {0}) → Seated → ℕ → Seated → Type 0
loaded_abort st m = OnAbort (sees_abort m.0.seen) st m

-- `lower` is a fetch-min on low with the index
abbrev pub lowered : Step (Unit {0}) → Seated → ℕ → Seated → Type 0
lowered st m = OnLow (lowers m.0.seen st.first) st m

-- `raise` is a fetch-max on high with one above the index
abbrev pub raised : Step (Unit {0}) → Seated → ℕ → Seated → Type 0
raised st m = OnHigh (raises m.0.seen st.first) st m

-- `abort` is a compare and exchange on abort, of 0 for one above the index
abbrev pub aborted : Step (Unit {0}) → Seated → ℕ → Seated → Type 0
aborted st m = OnAbort (aborts m.0.seen (st.second - 1)) st m

-- `abort_memory` is a fetch-max on abort with the word of Memory
abbrev pub memory_aborted : Step (Unit {0}) → Seated → ℕ → Seated → Type 0
memory_aborted st m = OnAbort (aborts_memory m.0.seen) st m

-- a seat is cut in two: what the old one keeps
abbrev pub cut_left : Known → Known
cut_left v = record v { seen = left_of v.seen }

-- what the new one has
abbrev pub cut_right : Known → Known
cut_right v = record v { seen = right_of v.seen }

-- two seats are made one
abbrev pub glued : Known → Known → Known
glued v w = record v { seen = joined v.seen w.seen }
