-- The rule that ties the three words to what the seats have seen.
use Rattle.std.specs.Prelude.{◌≡◌, ℕ, ◌<◌, ◌≤◌, Bool, true, false, List, [], ◌∷◌, length}
use mathlib.Core.Option.{some}
use lib.ListN.{get_elem?}
use Rattle.atomic_table.specs.Table.{State, Me}
use Rattle.par_signal.specs.declared.abort.Abort.{Abort}
use Rattle.par_signal.specs.declared.abort.Abort.TheVariants.{Memory}
use Rattle.par_signal.specs.Values.{IsLow, IsHigh, IsAbort, MayFollow, word_of, memory_word}
use Rattle.atomic_table.specs.Seated.{TableId}
use Rattle.par_signal.specs.Seen.{Sight, Seen}
use Rattle.par_signal.specs.Calls.{opened}

-- what the table keeps for a seat: what it has seen of these marks, and whether it is still there and not joined into another
pub record Known : Type 0 where
  pub live : Bool
  pub seen : Sight (List Bool)

-- the first seat's view
abbrev pub begun : List Bool → Known
begun marks = record { live = true; seen = opened marks marks }

-- the view of a seat that was joined into another
abbrev pub spent : Known
spent = record { live = false; seen = opened [] [] }

-- how the three flags stand
pub record Standing : Type 0 where
  pub low : ℕ
  pub high : ℕ
  pub abort : Abort

-- the words that stand for them
abbrev pub words_of : Standing → List ℕ
words_of f = f.low ∷ f.high ∷ word_of f.abort ∷ []

-- each value names a marked index or nothing
pub record IsNamed (marks : List Bool) (low high : ℕ) (abort : Abort) : Type 0 where
  pub low_is : IsLow marks low
  pub high_is : IsHigh marks high
  pub abort_is : IsAbort marks abort

-- what a live seat has seen agrees with the flags as they stand
pub record Agrees (marks : List Bool) (f : Standing) (v : Sight (List Bool)) : Type 0 where
  pub marks_are : v.of ≡ marks
  pub low_falls : f.low ≤ v.low
  pub high_rises : v.high ≤ f.high
  pub abort_follows : MayFollow v.abort f.abort
  pub named : IsNamed marks v.low v.high v.abort
  pub alone : v.alone ≡ true → (v.low ≡ f.low) × (v.high ≡ f.high) × (v.abort ≡ f.abort)

-- a live seat that called `abort_memory`
abbrev pub Called : Known → Type 0
Called v = (v.live ≡ true) × (v.seen.called ≡ true)

-- some live seat called it
abbrev pub WasCalled : List Known → Type 0
WasCalled views = (j : ℕ) × (v : Known) × (get_elem? views j ≡ some v) × Called v

-- where a live seat is alone, no other is live
abbrev pub KeepsAlone : List Known → Type 0
KeepsAlone views = (j k : ℕ) (v u : Known) → get_elem? views j ≡ some v → get_elem? views k ≡ some u → v.live ≡ true → u.live ≡ true → v.seen.alone ≡ true → k ≡ j

-- what holds between any two steps: the words are flags that name marked indexes, each live seat agrees with them, and Memory stands only where a live seat called for it
pub record Kept (marks : List Bool) (s : State (Unit {0}) Known) : Type 0 where
  pub flags : Standing
  pub words_are : s.words ≡ words_of flags
  pub few : length marks < memory_word
  pub named : IsNamed marks flags.low flags.high flags.abort
  pub agrees : (j : ℕ) (v : Known) → get_elem? s.views j ≡ some v → v.live ≡ true → Agrees marks flags v.seen
  pub called : flags.abort ≡ Memory → WasCalled s.views
  pub alone : KeepsAlone s.views

-- what every seat keeps: it is live, no slot is out with it, what it has seen names marked indexes, and where it is alone it has seen Memory only if it called `abort_memory` itself
pub record IsSeat (m : Me (Unit {0}) Known) : Type 0 where
  pub live : m.0.live ≡ true
  pub bare : m.1 ≡ []
  pub named : IsNamed m.0.seen.of m.0.seen.low m.0.seen.high m.0.seen.abort
  pub caller : m.0.seen.alone ≡ true → m.0.seen.abort ≡ Memory → m.0.seen.called ≡ true

-- what a seat has seen, with the table that its flags are
abbrev pub located : TableId → Sight (List Bool) → Seen
located t v = record { of = record { table = t; marks = v.of }; low = v.low; high = v.high; abort = v.abort; called = v.called; alone = v.alone; steps = v.steps; notes = v.notes }
