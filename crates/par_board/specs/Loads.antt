-- What is known of a load.
use Rattle.std.specs.Prelude.{◌≡◌, ℕ, ◌+◌, List, length, Bool, true, false}
use Rattle.either.specs.declared.Either.{Either}
use Rattle.either.specs.declared.Either.TheVariants.{Left, Right}
use Rattle.par_task.specs.Spans.{IsSpan}

-- the splitter is the source over lo..hi
pub record IsPiece {S X : Type 0} (items : S → List X) (lo_of : S → ℕ) (source : List X) (lo hi : ℕ) (s : S) : Type 0 where
  pub place : lo_of s ≡ lo
  pub ends : lo + length (items s) ≡ hi
  pub span : IsSpan source lo (items s)

-- whether a part lies there, and not a splitter
abbrev pub is_part : {S P : Type 0} → Either S P → Bool
is_part (Left s) = false
is_part (Right p) = true

-- the splitter, or the part, is as it is to be
abbrev pub Sound : {S P V : Type 0} → (S → Type 0) → (P → V) → (V → Type 0) → Either S P → Type 0
Sound source shown good (Left s) = source s
Sound source shown good (Right p) = good (shown p)
