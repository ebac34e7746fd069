-- The first numbers of a range.
use Rattle.std.specs.Prelude.{◌≡◌, ℕ, ℤ, List, min}
use Rattle.par_splitter.specs.Range.{IsRangeCount, stepped}

-- these are the first n numbers of `a until b by c`, or all where there are fewer
abbrev pub AreFirst : ℤ → ℤ → ℤ → ℕ → List ℤ → Type 0
AreFirst a b c n numbers = (count : ℕ) × IsRangeCount a b c count × (numbers ≡ stepped a c (min count n))
