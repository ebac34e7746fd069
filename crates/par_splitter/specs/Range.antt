-- Ranges of whole numbers. Scala: `a until b by c` begins with a, excludes b, and is empty where the step leads away
-- from b.
use Rattle.std.specs.Prelude.{◌≡◌, ℕ, ◌<◌, List, length, map, ℤ, pos, ◌+ℤ◌, ◌*ℤ◌, ◌<ℤ◌, FitsSigned}
use Rattle.std.specs.Int.{w64}
use Rattle.std.specs.List.{range_with_len}

-- x lies before b in the direction of the step c
abbrev pub IsBefore : ℤ → ℤ → ℤ → Type 0
IsBefore c x b = (pos 0 <ℤ c → x <ℤ b) × (c <ℤ pos 0 → b <ℤ x)

-- of the numbers a, a + c, a + 2 * c, .. the first n lie before b, and the next one does not
pub record IsRangeCount (a b c : ℤ) (n : ℕ) : Type 0 where
  pub inside : (i : ℕ) → i < n → IsBefore c (a +ℤ pos i *ℤ c) b
  pub ended : ¬ IsBefore c (a +ℤ pos n *ℤ c) b

-- the n numbers a + i * c, for i = 0, 1, ..
abbrev pub stepped : ℤ → ℤ → ℕ → List ℤ
stepped a c n = map (λ i. a +ℤ pos i *ℤ c) (range_with_len 0 n)

-- the list is `a until b by c`: the numbers a + i * c, for i = 0, 1, .., while they lie before b
pub record IsRange (a b c : ℤ) (xs : List ℤ) : Type 0 where
  pub numbers : xs ≡ stepped a c (length xs)
  pub count : IsRangeCount a b c (length xs)

-- each of the n numbers a + i * c is a value of i64
abbrev pub AllFit : ℤ → ℤ → ℕ → Type 0
AllFit a c n = (i : ℕ) → i < n → FitsSigned w64 (a +ℤ pos i *ℤ c)

-- x is the number k steps on from a, if that is a value of i64
abbrev pub IsReached : ℤ → ℤ → ℕ → ℤ → Type 0
IsReached a c k x = FitsSigned w64 (a +ℤ pos k *ℤ c) → x ≡ a +ℤ pos k *ℤ c
