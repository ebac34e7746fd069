-- What lawful words ask for.
use Rattle.std.specs.Prelude.{ℕ, ◌≤◌, Bool, false, List, [], ◌∷◌, Option, Some, None, is_some, option_map, option_and_then, bytes_eq, codes, if◌then◌else◌}
use Rattle.pipe_words.specs.Parts.{Audit, Level, Part, Positional, Text, Workers, parts_after, texts_of}
use Rattle.pipe_words.specs.Numbers.{number_or}

-- to run a pipeline over some data or none, with so many workers, this level, and an audit or none; or to check a pipeline
pub data Asked : Type 0 where
  Run : Text → Option Text → ℕ → ℕ → Bool → Asked
  Check : Text → Asked

-- what was given once, or not at all; None where it was given again
abbrev pub at_most_one : List Text → Option (Option Text)
at_most_one [] = Some None
at_most_one (text ∷ []) = Some (Some text)
at_most_one _ = None

-- 4 workers where none are given, and the level of as many as there are workers
abbrev pub run_with : Text → Option Text → Option Text → Option Text → Bool → Option Asked
run_with pipe table workers level audit =
    option_and_then (λ n. option_map (λ m. Run pipe table n m audit) (number_or n level)) (number_or 4 workers)

-- `run PIPE` and `run PIPE DATA`
abbrev pub run_of : List Text → Option Text → Option Text → Bool → Option Asked
run_of (pipe ∷ []) workers level audit = run_with pipe None workers level audit
run_of (pipe ∷ table ∷ []) workers level audit = run_with pipe (Some table) workers level audit
run_of _ workers level audit = None

-- `check PIPE`, with no option
abbrev pub check_of : List Text → Option Text → Option Text → Bool → Option Asked
check_of (pipe ∷ []) None None false = Some (Check pipe)
check_of _ workers level audit = None

-- the first positional is the mode
abbrev pub asked : List Text → Option Text → Option Text → Bool → Option Asked
asked [] workers level audit = None
asked (mode ∷ names) workers level audit =
    if bytes_eq mode (codes "run") then run_of names workers level audit
    else (if bytes_eq mode (codes "check") then check_of names workers level audit else None)

-- each option at most once
abbrev pub asked_by : List Part → Option Asked
asked_by parts =
    option_and_then (λ workers.
    option_and_then (λ level.
    option_and_then (λ audit. asked (texts_of Positional parts) workers level (is_some audit))
    (at_most_one (texts_of Audit parts)))
    (at_most_one (texts_of Level parts)))
    (at_most_one (texts_of Workers parts))

-- what the words ask for, or None where they are not lawful
abbrev pub command_of : List Text → Option Asked
command_of words = option_and_then asked_by (parts_after None words)

-- from 1 to 64 workers, and a level from 1 to 64
abbrev pub IsWithinLimits : Asked → Type 0
IsWithinLimits (Run pipe table workers level audit) = (1 ≤ workers) × (workers ≤ 64) × (1 ≤ level) × (level ≤ 64)
IsWithinLimits (Check pipe) = Unit {0}
