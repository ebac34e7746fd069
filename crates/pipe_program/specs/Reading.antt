-- Which text reads as which pipeline, and how each other text is refused.
use Rattle.std.specs.Prelude.{◌≡◌, ◌≢◌, ◌⊎◌, ◌++◌, ◌+◌, ◌≤◌, ℕ, suc, length, true, false, List, [], ◌∷◌}
use Rattle.std.specs.Str.Lines.{lines}
use Rattle.pipe_text.specs.declared.line.LineFault.{LineFault}
use Rattle.pipe_text.specs.declared.line.LineFault.TheVariants as faults
use Rattle.pipe_text.specs.Token.{Lex}
use Rattle.pipe_text.specs.Line.{IsRefused, ReadsAs}
use Rattle.pipe_tokens.specs.Meaning.{all_meant}
use Rattle.par_rows.specs.declared.schema.Column.{Column}
use Rattle.pipe_steps.specs.Said.{Said, Middle, End, Begins, Goes, Ends, view}
use Rattle.pipe_program.specs.declared.refusal.ParseStop.{ParseStop}
use Rattle.pipe_program.specs.declared.refusal.ParseStop.TheVariants as stops
use Rattle.pipe_checks.specs.declared.fault.Fault.{Fault}
use Rattle.pipe_checks.specs.declared.fault.LineStop.{LineStop}
use Rattle.pipe_checks.specs.declared.fault.LineStop.TheVariants as lines_stop
use Rattle.pipe_checks.specs.Columns.{are_distinct, columns_after, source_columns, step_columns}
use Rattle.pipe_checks.specs.Kinds.{fits, known}
use Rattle.pipe_checks.specs.Places.{Spot, Accepts, Refuses, moves, next, rank, split_fits, start}
use Rattle.pipe_checks.specs.Uses.{every}
use Rattle.pipe_program.specs.declared.numbered.Numbered.{Numbered}
use Rattle.pipe_program.specs.Plans.{Plan, AreOf}
use Rattle.pipe_program.specs.Parts.{Parts, with_line}

-- a line that is neither blank nor a comment says this in its place
abbrev pub Says : Spot → List ℕ → Said → Type 0
Says p line y = (u : Lex) × (us : List Lex) × ReadsAs line (u ∷ us) × Accepts p y (all_meant p.version (u ∷ us))

-- the lines from here on say these things; a line without a token is blank or a comment
abbrev pub ReadsFrom : Spot → List (List ℕ) → List Said → Type 0
ReadsFrom p [] ys = (p.ended ≡ true) × (ys ≡ [])
ReadsFrom p (line ∷ rest) ys = (ReadsAs line [] × ReadsFrom p rest ys) ⊎ ((y : Said) × (more : List Said) × Says p line y × ReadsFrom (next p y) rest more × (ys ≡ y ∷ more))

-- the kinds of the faults that come before a line's tokens
abbrev pub early : LineFault → ℕ
early faults.Utf8 = 1
early faults.Token = 2
early faults.Long = 3
early faults.Memory = 0

-- the least kind of refusal that a line has in its place
abbrev pub RefusesLine : Spot → List ℕ → ℕ → Type 0
RefusesLine p line kind =
    ((e : LineFault) × (e ≢ faults.Memory) × IsRefused line e × (kind ≡ early e))
    ⊎ ((u : Lex) × (us : List Lex) × (k : Fault) × ReadsAs line (u ∷ us) × Refuses p k (all_meant p.version (u ∷ us)) × (kind ≡ rank k))

-- from number n on, this is the least line that has a refusal, and this its least kind; 13 behind the last line where no last step was there
abbrev pub RefusedFrom : Spot → ℕ → List (List ℕ) → ℕ → ℕ → Type 0
RefusedFrom p n [] at kind = (p.ended ≡ false) × (at ≡ n) × (kind ≡ 13)
RefusedFrom p n (line ∷ rest) at kind =
    ((at ≡ n) × RefusesLine p line kind)
    ⊎ ((ReadsAs line [] × RefusedFrom p (suc n) rest at kind) ⊎ ((y : Said) × Says p line y × RefusedFrom (next p y) (suc n) rest at kind))

-- the lines from number n on say these things, each with the number of its line
abbrev pub NumberedFrom : Spot → ℕ → List (List ℕ) → List (ℕ × Said) → Type 0
NumberedFrom p n [] zs = zs ≡ []
NumberedFrom p n (line ∷ rest) zs = (ReadsAs line [] × NumberedFrom p (suc n) rest zs) ⊎ ((y : Said) × (more : List (ℕ × Said)) × Says p line y × NumberedFrom (next p y) (suc n) rest more × (zs ≡ (n, y) ∷ more))

-- the bytes say these things, each on the line of this number
abbrev pub AreNumbered : List ℕ → List (ℕ × Said) → Type 0
AreNumbered text zs = NumberedFrom start 1 (lines text) zs

abbrev pub numbered : Numbered → ℕ × Said
numbered z = (z.at, view z.said)

-- the bytes say these things, line by line
abbrev pub AreSaid : List ℕ → List Said → Type 0
AreSaid text ys = ReadsFrom start (lines text) ys

-- the bytes read as this plan
abbrev pub Reads : List ℕ → Plan → Type 0
Reads text p = (ys : List Said) × AreSaid text ys × AreOf p ys

-- the bytes are refused on this line for this kind
abbrev pub IsRefusedText : List ℕ → ℕ → ℕ → Type 0
IsRefusedText text at kind = RefusedFrom start 1 (lines text) at kind

-- some text reads as this plan
abbrev pub IsReadable : Plan → Type 0
IsReadable p = (text : List ℕ) × Reads text p

-- why a text wasn't read
abbrev pub Stops : List ℕ → ParseStop → Type 0
Stops text (stops.Refused r) = IsRefusedText text r.line r.kind
Stops text stops.Memory = Unit {0}

-- a refusal is that of a line, and not that of a text which ends too soon
abbrev pub IsOfLine : ParseStop → Type 0
IsOfLine (stops.Refused r) = r.kind ≢ 13
IsOfLine stops.Memory = Unit {0}

-- why a line with this number wasn't taken in its place
abbrev pub StopsLine : Spot → List ℕ → ℕ → ParseStop → Type 0
StopsLine p line n (stops.Refused r) = (r.line ≡ n) × RefusesLine p line r.kind
StopsLine p line n stops.Memory = Unit {0}

-- the same of a line's faults, by their numbers
abbrev pub early_as : ℕ → LineFault → ParseStop
early_as at faults.Memory = stops.Memory
early_as at faults.Utf8 = stops.Refused (record { line = at; kind = 1 })
early_as at faults.Token = stops.Refused (record { line = at; kind = 2 })
early_as at faults.Long = stops.Refused (record { line = at; kind = 3 })

abbrev pub late_as : ℕ → LineStop → ParseStop
late_as at (lines_stop.Fault k) = stops.Refused (record { line = at; kind = rank k })
late_as at lines_stop.Memory = stops.Memory

-- a line is taken: it is blank or a comment and nothing changes, or what it says is put in
abbrev pub Takes : Spot → List ℕ → Parts → Spot → Parts → Type 0
Takes p line before q after =
    (ReadsAs line [] × (q ≡ p) × (after ≡ before))
    ⊎ ((y : Said) × Says p line y × (q ≡ next p y) × (after ≡ with_line before y))

-- a line with this number is noted: it is blank or a comment and nothing changes, or what it says is added
abbrev pub Notes : Spot → List ℕ → ℕ → List (ℕ × Said) → Spot → List (ℕ × Said) → Type 0
Notes p line n before q after =
    (ReadsAs line [] × (q ≡ p) × (after ≡ before))
    ⊎ ((y : Said) × Says p line y × (q ≡ next p y) × (after ≡ before ++ (n, y) ∷ []))

-- the text reads as a plan or is refused
abbrev pub IsSettled : List ℕ → Type 0
IsSettled text = ((p : Plan) × Reads text p) ⊎ ((at : ℕ) × (kind : ℕ) × IsRefusedText text at kind)

-- the text reads as one plan at most, has one refusal at most, and not both
pub record IsUnique (text : List ℕ) : Type 0 where
  pub reading : (p q : Plan) → Reads text p → Reads text q → p ≡ q
  pub refusal : (at kind line why : ℕ) → IsRefusedText text at kind → IsRefusedText text line why → (at ≡ line) × (kind ≡ why)
  pub apart : (p : Plan) (at kind : ℕ) → Reads text p → ¬ (IsRefusedText text at kind)

-- nothing that a line says is wrong over the columns before it: each name is there and no two columns after it have one name, each operand has the right kind, and neither the step of a range nor a separator is 0 or empty
pub record IsFaultless (cs : List Column) (y : Said) : Type 0 where
  pub named : every (known cs) y ≡ true
  pub apart : are_distinct (columns_after cs y) ≡ true
  pub typed : every (fits cs) y ≡ true
  pub splits : split_fits cs y ≡ true
  pub moving : moves y ≡ true

-- the same of steps and a last step behind them
abbrev pub AreFaultless : List Column → List Middle → End → Type 0
AreFaultless cs [] last = IsFaultless cs (Ends last)
AreFaultless cs (m ∷ ms) last = IsFaultless cs (Goes m) × AreFaultless (step_columns cs m) ms last

-- nothing of the plan is wrong, and it has at most 64 steps with its source and its last step
pub record IsSound (p : Plan) : Type 0 where
  pub source : IsFaultless [] (Begins p.origin)
  pub steps : AreFaultless (source_columns p.origin) p.middles p.last
  pub few : length p.middles + 2 ≤ 64
