-- Parts by a list of sizes, while they are cut.
use Rattle.std.proofs.Common.{◌≡◌, ℕ, List, ◌++◌, map}
use Rattle.par_splitter.specs.Sizes.{cut_by, starts}

module _ {S X : Type 0} (items : S → List X) (lo : S → ℕ) where
  -- the parts so far, and the sizes that wait for the rest
  pub record AreCutSoFar (s : S) (sizes : List ℕ) (parts : List S) (waiting : List ℕ) (rest : S) : Type 0 where
    pub lists : cut_by sizes (items s) ≡ map items parts ++ cut_by waiting (items rest)
    pub places : starts (lo s) (cut_by sizes (items s)) ≡ map lo parts ++ starts (lo rest) (cut_by waiting (items rest))
