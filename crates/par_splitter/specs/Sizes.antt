-- What `psplit` gives: parts by a list of sizes.
use Rattle.std.specs.Prelude.{◌≡◌, ℕ, ◌+◌, List, [], ◌∷◌, length, map, take, drop}

-- the list cut by the sizes in turn: each takes what it asks for or all that is left, and where some are left over one
-- more part with them stands last
abbrev pub cut_by : {X : Type 0} → List ℕ → List X → List (List X)
cut_by [] [] = []
cut_by [] (x ∷ xs) = (x ∷ xs) ∷ []
cut_by (n ∷ ns) xs = take n xs ∷ cut_by ns (drop n xs)

-- where each of adjacent lists begins, if the first one begins at `at`
abbrev pub starts : {X : Type 0} → ℕ → List (List X) → List ℕ
starts at [] = []
starts at (xs ∷ xss) = at ∷ starts (at + length xs) xss

module _ {S X : Type 0} (items : S → List X) (lo : S → ℕ) where
  -- the parts of s by the sizes, adjacent from the place of s on
  pub record ArePartsBySize (s : S) (sizes : List ℕ) (parts : List S) : Type 0 where
    pub lists : map items parts ≡ cut_by sizes (items s)
    pub places : map lo parts ≡ starts (lo s) (cut_by sizes (items s))
