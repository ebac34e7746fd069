-- The text of audits.
use Rattle.std.specs.Prelude.{ℕ, List, [], ◌∷◌, ◌++◌, length, codes, decimal}
use Rattle.std.specs.List.{flat_map}
use Rattle.par_task.specs.declared.audit.Leaf.{Leaf}
use Rattle.pipe_answers.specs.declared.audits.StageAudit.{StageAudit}
use Rattle.pipe_answers.specs.Texts.{line}

-- a word, and a number in decimal
unfoldable pub worded : List ℕ → ℕ → List ℕ
worded word n = word ++ decimal n

-- which items a leaf had
abbrev pub place_text : Leaf → List ℕ
place_text leaf = worded (codes "leaf ") leaf.node ++ worded (codes " ") leaf.lo ++ worded (codes " ") leaf.hi

-- who ran it, when, and what it saw and tested
abbrev pub run_text : Leaf → List ℕ
run_text leaf = worded (codes " seat ") leaf.seat ++ worded (codes " turn ") leaf.turn ++ worded (codes " flag ") leaf.flag ++ worded (codes " tested ") leaf.tested

-- a leaf, in one line
abbrev pub leaf_text : Leaf → List ℕ
leaf_text leaf = line (place_text leaf ++ run_text leaf)

-- the number and the first word of a step, how many items its job had, and how many leaves
abbrev pub stage_text : StageAudit → List ℕ
stage_text a = line (worded (codes "stage ") a.stage ++ codes " " ++ a.name.now ++ worded (codes " items ") a.items ++ worded (codes " leaves ") (length a.audit))

-- a step, and then its leaves by their places
abbrev pub audit_text : StageAudit → List ℕ
audit_text a = stage_text a ++ flat_map leaf_text a.audit

-- audits, in order
abbrev pub audits_text : List StageAudit → List ℕ
audits_text audits = flat_map audit_text audits
