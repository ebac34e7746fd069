-- What each word is, from left to right.
use Rattle.std.specs.Prelude.{ℕ, ◌==◌, Bool, true, false, List, [], ◌∷◌, map, Option, Some, None, option_map, bytes_eq, codes, if◌then◌else◌}
use Rattle.std.specs.List.{after_first, before_first, list_any}

abbrev pub Text : Type 0
Text = List ℕ

-- what a text is for: it is a positional, or the value of an option; the flag counts as the text `true`
pub data Role : Type 0 where
  Positional : Role
  Workers : Role
  Level : Role
  Audit : Role

abbrev pub Part : Type 0
Part = Role × Text

-- how a word looks: a positional; `--`; `--name` or `--name=value`; any other word that begins with `-`
pub data Look : Type 0 where
  Plain : Look
  End : Look
  Long : Text → Option Text → Look
  Short : Look

-- `=`
abbrev pub is_equals : ℕ → Bool
is_equals c = c == 61

-- what follows `--`: nothing, or a name with the value that stands after the first `=`
abbrev pub after_two_dashes : Text → Look
after_two_dashes [] = End
after_two_dashes (c ∷ cs) = Long (before_first is_equals (c ∷ cs))
    (if list_any is_equals (c ∷ cs) then Some (after_first is_equals (c ∷ cs)) else None)

-- what follows a first `-`, which is 45; `-` alone is a positional
abbrev pub after_dash : Text → Look
after_dash [] = Plain
after_dash (c ∷ cs) = if c == 45 then after_two_dashes cs else Short

abbrev pub look_of : Text → Look
look_of [] = Plain
look_of (c ∷ cs) = if c == 45 then after_dash cs else Plain

-- the options by their whole names
abbrev pub role_named : Text → Option Role
role_named name =
    if bytes_eq (codes "workers") name then Some Workers
    else (if bytes_eq (codes "level") name then Some Level
    else (if bytes_eq (codes "audit") name then Some Audit else None))

-- a first part, where the rest is lawful
abbrev pub with_part : Part → Option (List Part) → Option (List Part)
with_part part = option_map (λ parts. part ∷ parts)

-- an option is met. `rest` is what the words after it say, and `waiting` what they say where the first is its value
abbrev pub option_met : Option Role → Option Text → Option (List Part) → (Role → Option (List Part)) → Option (List Part)
option_met None value rest waiting = None
option_met (Some Audit) None rest waiting = with_part (Audit, codes "true") rest
option_met (Some Audit) (Some value) rest waiting = None
option_met (Some role) None rest waiting = waiting role
option_met (Some role) (Some value) rest waiting = with_part (role, value) rest

abbrev pub positional : Text → Part
positional word = (Positional, word)

-- a word is met, where no option waits for its value. After `--` every word is a positional
abbrev pub word_met : Look → Text → List Text → Option (List Part) → (Role → Option (List Part)) → Option (List Part)
word_met Plain word words rest waiting = with_part (positional word) rest
word_met End word words rest waiting = Some (map positional words)
word_met (Long name value) word words rest waiting = option_met (role_named name) value rest waiting
word_met Short word words rest waiting = None

-- the parts of the words, where a first option may still wait for its value; None where they are refused
abbrev pub parts_after : Option Role → List Text → Option (List Part)
parts_after None [] = Some []
parts_after None (word ∷ words) = word_met (look_of word) word words (parts_after None words) (λ role. parts_after (Some role) words)
parts_after (Some role) [] = None
parts_after (Some role) (word ∷ words) = with_part (role, word) (parts_after None words)

abbrev pub is_role : Role → Role → Bool
is_role Positional Positional = true
is_role Workers Workers = true
is_role Level Level = true
is_role Audit Audit = true
is_role _ _ = false

-- the texts of a role, in order
abbrev pub texts_of : Role → List Part → List Text
texts_of role [] = []
texts_of role (part ∷ parts) = if is_role role part.0 then part.1 ∷ texts_of role parts else texts_of role parts
