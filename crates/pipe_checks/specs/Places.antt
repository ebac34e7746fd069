-- Lines in their place: the faults of a line, and what it says.
use Rattle.std.specs.Prelude.{◌≡◌, ◌<◌, ◌+◌, ◌==◌, ◌&&◌, ◌||◌, not, nat_le, nat_lt, is_some, ℕ, ℤ, Bool, true, false, List, [], ◌∷◌, length, map, Option, Some, None, if◌then◌else◌, encode_utf8_all}
use Rattle.par_rows.specs.declared.schema.Column.{Column}
use Rattle.pipe_expr.specs.declared.token.Token.{Token}
use Rattle.pipe_expr.specs.declared.token.Token.TheVariants as t
use Rattle.pipe_expr.specs.declared.token.Reserved.TheVariants as r
use Rattle.pipe_expr.specs.declared.token.Verb.{Verb}
use Rattle.pipe_expr.specs.declared.token.Verb.TheVariants as v
use Rattle.pipe_expr.specs.Divisor.{divides_by_ints}
use Rattle.pipe_steps.specs.Said.{Text, Said, Second, Begins, Par, Goes, Ends}
use Rattle.pipe_steps.specs.Said as x
use Rattle.pipe_steps.specs.Forms.{Says}
use Rattle.pipe_steps.specs.Reading.{said}
use Rattle.pipe_checks.specs.declared.fault.Fault.{Fault}
use Rattle.pipe_checks.specs.declared.fault.Fault.TheVariants as f
use Rattle.pipe_checks.specs.declared.standing.Place.{Place}
use Rattle.pipe_checks.specs.declared.fault.LineStop.{LineStop}
use Rattle.pipe_checks.specs.declared.fault.LineStop.TheVariants as stops
use Rattle.pipe_checks.specs.Uses.{every}
use Rattle.pipe_checks.specs.Kinds.{divides_well, fits, has, is_shallow, is_text, is_zero, kind_named, known}
use Rattle.pipe_checks.specs.Columns.{are_distinct, columns_after}

-- what the lines before have said: the version, whether there was a line, whether there was a source, whether it was the last line, whether there was a last step, how many steps, and the columns after them
pub record Spot : Type 0 where
  pub version : ℕ
  pub opened : Bool
  pub begun : Bool
  pub fresh : Bool
  pub ended : Bool
  pub steps : ℕ
  pub columns : List Column

abbrev pub spot : Place → Spot
spot p = record { version = p.version; opened = p.opened; begun = p.begun; fresh = p.fresh; ended = p.ended; steps = p.steps; columns = p.columns.items }

-- before the first line
abbrev pub start : Spot
start = record { version = 1; opened = false; begun = false; fresh = false; ended = false; steps = 0; columns = [] }

-- ---- what a line says in a version

abbrev pub is_one : {A : Type 0} → List A → Bool
is_one (k ∷ []) = true
is_one _ = false

-- `groupBy` has one key
abbrev pub has_one_key : Said → Bool
has_one_key (Goes (x.GroupBy ks ts)) = is_one ks
has_one_key _ = true

-- version 1 asks that each divisor is an int, and that `groupBy` has one key
unfoldable pub suits : ℕ → Said → Bool
suits version y = not (version == 1) || (every (λ want e. divides_by_ints e) y && has_one_key y)

-- the tokens of a line say this in a version
abbrev pub SaysIn : ℕ → Said → List Token → Type 0
SaysIn version y ts = Says y ts × (suits version y ≡ true)

-- ---- the faults of a line, one definition for each

-- the line's first word names a step that may stand here
abbrev pub word_stands : Spot → Verb → Bool
word_stands p v.Pipeline = not p.opened
word_stands p v.Par = p.fresh
word_stands p v.Plain = false
word_stands p v.Array = false
word_stands p v.Vector = false
word_stands p _ = p.begun && not p.ended

abbrev pub stands : Spot → List Token → Bool
stands p (t.Kept r.From ∷ rest) = not p.begun
stands p (t.Word w n ∷ rest) = word_stands p w
stands p _ = false

-- the column that `flatMap` splits is there, and holds texts
abbrev pub split_known : List Column → Said → Bool
split_known cs (Goes (x.FlatMap n s)) = has cs n
split_known cs _ = true

abbrev pub split_fits : List Column → Said → Bool
split_fits cs (Goes (x.FlatMap n s)) = is_text (kind_named cs n)
split_fits cs _ = true

-- the step of a range isn't 0, and a separator isn't empty
abbrev pub moves : Said → Bool
moves (Begins (x.Range a b c)) = not (is_zero c)
moves (Goes (x.ZipRange a b c n)) = not (is_zero c)
moves (Goes (x.FlatMap n s)) = not (length (encode_utf8_all s) == 0)
moves _ = true

-- a source, a step or a last step; `par` and `pipeline 2` aren't counted
abbrev pub is_step : Said → Bool
is_step Second = false
is_step (Par k) = false
is_step _ = true

-- an expression is more than 64 deep
unfoldable pub too_deep : Said → Bool
too_deep y = not (every is_shallow y)

-- a named column isn't there, or two columns after the line have one name
unfoldable pub misnamed : List Column → Said → Bool
misnamed cs y = not (every (known cs) y && (split_known cs y && are_distinct (columns_after cs y)))

-- an operand or an argument has the wrong kind, or `++` stands in a truth
unfoldable pub mistyped : List Column → Said → Bool
mistyped cs y = not (every (fits cs) y && split_fits cs y)

-- the step of a range or a divisor is 0, or a separator is empty
unfoldable pub stuck : Said → Bool
stuck y = not (every divides_well y && moves y)

-- it gives more than 64 columns
unfoldable pub too_wide : List Column → Said → Bool
too_wide cs y = nat_lt 64 (length (columns_after cs y))

-- it is a step after the 64th
unfoldable pub too_many : ℕ → Said → Bool
too_many steps y = is_step y && nat_le 64 steps

-- the faults that only a line of its step's form has
abbrev pub faulty : Spot → Said → Fault → Bool
faulty p y f.Depth = too_deep y
faulty p y f.Name = misnamed p.columns y
faulty p y f.Type = mistyped p.columns y
faulty p y f.Zero = stuck y
faulty p y f.Columns = too_wide p.columns y
faulty p y f.Steps = too_many p.steps y
faulty p y _ = false

abbrev pub zero : Token → Token
zero (t.Digits n) = t.Digits 0
zero k = k

-- a line has the shape of its step where it reads, or does with each number taken as 0
abbrev pub Has : Spot → Fault → List Token → Type 0
Has p f.Step ts = stands p ts ≡ false
Has p f.Shape ts = ((y : Said) → ¬ (SaysIn p.version y ts)) × ((y : Said) → ¬ (SaysIn p.version y (map zero ts)))
Has p f.Number ts = (y : Said) → ¬ (SaysIn p.version y ts)
Has p k ts = (y : Said) × SaysIn p.version y ts × (faulty p y k ≡ true)

-- the number of each kind of refusal
abbrev pub rank : Fault → ℕ
rank f.Step = 4
rank f.Shape = 5
rank f.Number = 6
rank f.Depth = 7
rank f.Name = 8
rank f.Type = 9
rank f.Zero = 10
rank f.Columns = 11
rank f.Steps = 12

abbrev pub Lacks : Spot → ℕ → List Token → Type 0
Lacks p n ts = (k : Fault) → rank k < n → ¬ (Has p k ts)

-- the line says this, and has no fault
abbrev pub Accepts : Spot → Said → List Token → Type 0
Accepts p y ts = SaysIn p.version y ts × Lacks p 13 ts

-- this is the least fault that the line has
abbrev pub Refuses : Spot → Fault → List Token → Type 0
Refuses p k ts = Has p k ts × Lacks p (rank k) ts

abbrev pub IsRefused : Spot → LineStop → List Token → Type 0
IsRefused p (stops.Fault k) ts = Refuses p k ts
IsRefused p stops.Memory ts = Unit {0}

-- ---- the place after a line

abbrev pub is_source : Said → Bool
is_source (Begins o) = true
is_source _ = false

abbrev pub is_last : Said → Bool
is_last (Ends l) = true
is_last _ = false

abbrev pub version_after : Spot → Said → ℕ
version_after p Second = 2
version_after p _ = p.version

abbrev pub next : Spot → Said → Spot
next p y = record { version = version_after p y; opened = true; begun = p.begun || is_source y; fresh = is_source y; ended = is_last y; steps = if is_step y then p.steps + 1 else p.steps; columns = columns_after p.columns y }

-- ---- the same, decided

abbrev pub said_when : ℕ → Option Said → Option Said
said_when version None = None
said_when version (Some y) = if suits version y then Some y else None

-- what a line says in a version
abbrev pub said_in : ℕ → List Token → Option Said
said_in version ts = said_when version (said ts)

-- the least of the later faults
abbrev pub first_of : Spot → Said → List Fault → Option Fault
first_of p y [] = None
first_of p y (k ∷ ks) = if faulty p y k then Some k else first_of p y ks

abbrev pub fault_of : Spot → Said → Option Fault
fault_of p y = first_of p y (f.Depth ∷ f.Name ∷ f.Type ∷ f.Zero ∷ f.Columns ∷ f.Steps ∷ [])

pub data Verdict : Type 0 where
  Right : Said → Verdict
  Wrong : Fault → Verdict

abbrev pub ruled : Said → Option Fault → Verdict
ruled y None = Right y
ruled y (Some k) = Wrong k

-- a line that doesn't read: a number is too great, or the shape is wrong
abbrev pub unread : Bool → Verdict
unread true = Wrong f.Number
unread false = Wrong f.Shape

abbrev pub read_so : Spot → List Token → Option Said → Verdict
read_so p ts (Some y) = ruled y (fault_of p y)
read_so p ts None = unread (is_some (said_in p.version (map zero ts)))

abbrev pub verdict : Spot → List Token → Verdict
verdict p ts = if stands p ts then read_so p ts (said_in p.version ts) else Wrong f.Step

-- why a line was stopped is its verdict
abbrev pub StopsAs : LineStop → Verdict → Type 0
StopsAs (stops.Fault k) v = v ≡ Wrong k
StopsAs stops.Memory v = Unit {0}
