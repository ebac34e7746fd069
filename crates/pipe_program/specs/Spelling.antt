-- How else a plan may be spelled.
use Rattle.std.specs.Prelude.{ℕ, List, [], ◌∷◌, ◌++◌, map}
use Rattle.pipe_text.specs.Token.{Lex}
use Rattle.pipe_text.specs.Line.{ReadsAs}
use Rattle.pipe_tokens.specs.Meaning.{all_meant}
use Rattle.pipe_steps.specs.Said.{Said, Second, Begins, Goes, Ends}
use Rattle.pipe_steps.specs.Forms.{Says}
use Rattle.pipe_program.specs.Plans.{Plan}

-- the line says this in a version
abbrev pub Spells : ℕ → List ℕ → Said → Type 0
Spells version line y = (u : Lex) × (us : List Lex) × ReadsAs line (u ∷ us) × Says y (all_meant version (u ∷ us))

-- some line says this
abbrev pub IsSayable : ℕ → Said → Type 0
IsSayable version y = (line : List ℕ) × Spells version line y

abbrev pub AreSayable : ℕ → List Said → Type 0
AreSayable version [] = Unit {0}
AreSayable version (y ∷ ys) = IsSayable version y × AreSayable version ys

-- the lines of a plan, but for the version and `par`
abbrev pub steps_of : Plan → List Said
steps_of p = Begins p.origin ∷ (map Goes p.middles ++ Ends p.last ∷ [])

-- the version in which a line is read: the first line of version 2 stands in version 1 yet
abbrev pub version_at : ℕ → Said → ℕ
version_at version Second = 1
version_at version _ = version

-- the lines say these things, one each
abbrev pub AreSpelled : ℕ → List (List ℕ) → List Said → Type 0
AreSpelled version [] [] = Unit {0}
AreSpelled version (line ∷ lines) (y ∷ ys) = Spells (version_at version y) line y × AreSpelled version lines ys
AreSpelled version _ _ = ⊥
