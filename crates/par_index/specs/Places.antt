-- The places that an index keeps, by hash.
use Rattle.std.specs.Prelude.{◌≡◌, ℕ, ◌+◌, Bool, true, false, cond, ◌||◌, ◌&&◌, ◌==◌, List, [], ◌∷◌, ◌++◌, Option, Some, None}
use Rattle.par_index.specs.declared.index.Leaf.{Leaf}

-- the list has the place
abbrev pub is_among : ℕ → List ℕ → Bool
is_among a [] = false
is_among a (n ∷ ns) = (n == a) || is_among a ns

-- a leaf's place, where its hash is this one
abbrev pub places_of : Leaf → ℕ → List ℕ
places_of leaf q = cond (leaf.rest == q) (leaf.at ∷ []) []

-- the first place that is wanted
abbrev pub first_such : (ℕ → Bool) → List ℕ → Option ℕ
first_such test [] = None
first_such test (n ∷ ns) = cond (test n) (Some n) (first_such test ns)

module _ {S : Type 0} (has : S → ℕ → ℕ → Bool) (count : S → ℕ) where
  -- one more place, the next number, under this hash and under no other
  pub record IsGrown (s t : S) (hash : ℕ) : Type 0 where
    pub counted : count t ≡ count s + 1
    pub kept : (q a : ℕ) → has t q a ≡ (has s q a || ((hash == q) && (count s == a)))

  -- the same places under the same hashes
  pub record IsUnchanged (s t : S) : Type 0 where
    pub counted : count t ≡ count s
    pub kept : (q a : ℕ) → has t q a ≡ has s q a
