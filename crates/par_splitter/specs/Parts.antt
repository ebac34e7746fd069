-- How the parts of a splitter follow from its list and its place.
use Rattle.std.specs.Prelude.{◌≡◌, ℕ, ◌+◌, ◌/◌, ◌<◌, min, List, [], ◌∷◌, ◌++◌, length}
use Rattle.par_splitter.specs.declared.cut.Cut.{Cut}
use Rattle.par_splitter.specs.declared.cut.Cut.TheVariants.{One, Two}

-- `items` is the list still to come, and `lo` the place of its first item in the source
module _ {S X : Type 0} (items : S → List X) (lo : S → ℕ) where
  -- t has the list and the place of s
  pub record IsDup (s t : S) : Type 0 where
    pub items_same : items t ≡ items s
    pub lo_same : lo t ≡ lo s

  -- a and b are adjacent parts, and their lists joined are the list of s
  pub record AreParts (s a b : S) : Type 0 where
    pub joined : items s ≡ items a ++ items b
    pub lo_left : lo a ≡ lo s
    pub lo_right : lo b ≡ lo s + length (items a)

  -- a and b are adjacent parts of s with items in both
  pub record AreHalves (s a b : S) : Type 0 where
    pub parts : AreParts s a b
    pub left_some : 0 < length (items a)
    pub right_some : 0 < length (items b)

  -- s has fewer than 2 items, and t has all of them
  pub record IsWhole (s t : S) : Type 0 where
    pub short : length (items s) < 2
    pub dup : IsDup s t

  -- what a split of s gives: one part exactly where s has fewer than 2 items
  abbrev pub IsCut : S → Cut S → Type 0
  IsCut s (One t) = IsWhole s t
  IsCut s (Two a b) = AreHalves s a b

  -- the first of two parts has half of the items of s, rounded down
  abbrev pub IsHalved : S → Cut S → Type 0
  IsHalved s (One t) = Unit {0}
  IsHalved s (Two a b) = length (items a) ≡ length (items s) / 2

  -- x was the first item of s, and t has the rest
  pub record TookFirst (s : S) (x : X) (t : S) : Type 0 where
    pub first : items s ≡ x ∷ items t
    pub lo_next : lo t ≡ lo s + 1

  -- s has no item, and t neither
  pub record TookNone (s t : S) : Type 0 where
    pub none : items s ≡ []
    pub same : IsDup s t

  -- a has the first k items of s, or all where s has fewer, and b the rest
  pub record IsCutAt (s : S) (k : ℕ) (a b : S) : Type 0 where
    pub parts : AreParts s a b
    pub count : length (items a) ≡ min k (length (items s))
