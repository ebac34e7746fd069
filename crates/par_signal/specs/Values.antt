-- What each flag may be: nothing, or a marked index.
use Rattle.std.specs.Prelude.{◌≡◌, ℕ, ◌+◌, ◌-◌, ◌==◌, ◌⊎◌, List, Bool, length, max, if◌then◌else◌}
use Rattle.par_laws.specs.Marks.{IsMarked}
use Rattle.par_signal.specs.declared.abort.Abort.{Abort}
use Rattle.par_signal.specs.declared.abort.Abort.TheVariants.{No, By, Memory}

-- low is the number of items, or a marked index
abbrev pub IsLow : List Bool → ℕ → Type 0
IsLow marks x = (x ≡ length marks) ⊎ IsMarked marks x

-- high is 0, or one above a marked index
abbrev pub IsHigh : List Bool → ℕ → Type 0
IsHigh marks x = (x ≡ 0) ⊎ ((i : ℕ) × (x ≡ i + 1) × IsMarked marks i)

-- abort is No, By a marked index, or Memory
abbrev pub IsAbort : List Bool → Abort → Type 0
IsAbort marks No = Unit {0}
IsAbort marks (By i) = IsMarked marks i
IsAbort marks Memory = Unit {0}

-- an abort was asked for
abbrev pub IsSet : Abort → Type 0
IsSet No = ⊥
IsSet (By i) = Unit {0}
IsSet Memory = Unit {0}

-- once the abort flag was a, it may be b: No may become anything, By Memory alone, and Memory stays
abbrev pub MayFollow : Abort → Abort → Type 0
MayFollow No b = Unit {0}
MayFollow (By i) b = (b ≡ By i) ⊎ (b ≡ Memory)
MayFollow Memory b = b ≡ Memory

-- what By(i) leaves of the abort flag: a flag that is set stays
abbrev pub set_by : Abort → ℕ → Abort
set_by No i = By i
set_by (By j) i = By j
set_by Memory i = Memory

-- the greater of two: No, then By in the order of the indexes, then Memory
abbrev pub greater : Abort → Abort → Abort
greater No b = b
greater (By i) No = By i
greater (By i) (By j) = By (max i j)
greater (By i) Memory = Memory
greater Memory b = Memory

-- the word that stands for Memory, 2 ^ 63
abbrev pub memory_word : ℕ
memory_word = 9223372036854775808

-- the word that stands for an abort
abbrev pub word_of : Abort → ℕ
word_of No = 0
word_of (By i) = 1 + i
word_of Memory = memory_word

-- the abort that a word stands for
abbrev pub abort_of : ℕ → Abort
abort_of x = if x == 0 then No else if x == memory_word then Memory else By (x - 1)
