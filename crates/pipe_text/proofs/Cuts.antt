-- The first line of a text.
use Rattle.std.proofs.Common.{◌≡◌, ◌<◌, ◌+◌, ◌∷◌, ◌==◌, ◌∙◌, sym, refl, inl, inr, ℕ, suc, List, [], length, take, drop, Bool, false, arith}
use Rattle.std.specs.List.{position_or_len, slice_split}
use Rattle.std.specs.Str.Lines.{lines, lines_of_parts, strip_carriage_return}
use Rattle.std.proofs.lemmas.Bool.{cases_Bool}
use Rattle.std.specs.Prelude.{not}
use Rattle.std.proofs.lemmas.List.Sums.{prefix_len-le-length}
use Rattle.std.proofs.lemmas.List.Splits.{slice_split_first}
use Rattle.pipe_text.proofs.Bytes.{no_eq}
use Rattle.std.proofs.Math.ListN.{drop_of_length-le}

abbrev feed : ℕ → Bool
feed c = c == 10

split_whole : (xs : List ℕ) → position_or_len feed xs ≡ length xs → slice_split feed xs ≡ xs ∷ []
split_whole [] h = refl
split_whole (x ∷ xs) h = elim (cases_Bool (feed x)) [
  | inl e ↦ let bad : 0 ≡ suc (length xs) = rw e at h in absurd (omega (arith, bad))
  | inr e ↦
      let up : 1 + position_or_len feed xs ≡ suc (length xs) = rw e at h in
      rw (e, split_whole xs (omega (arith, up))) refl
]

-- a text without a line feed is a line
pub line_whole : (text : List ℕ) (n : ℕ) → n ≡ position_or_len feed text → n ≡ length text → 0 < length text → lines text ≡ text ∷ lines (drop n text)
line_whole text n e h some =
    let none : drop n text ≡ [] = drop_of_length-le text (omega (arith, h)) in
    let nil : lines [] ≡ [] = refl in
    rw (none, split_whole text (sym e ∙ h)) (one text some)
  where
    one : (xs : List ℕ) → 0 < length xs → lines_of_parts (xs ∷ []) ≡ xs ∷ []
    one [] s = absurd (omega (arith, s))
    one (x ∷ xs) s = let some : (suc (length xs) == 0) ≡ false = no_eq (suc (length xs)) 0 (λ h. absurd (omega (arith, h))) in rw some refl

pub before_end : (text : List ℕ) (n : ℕ) → n ≡ position_or_len feed text → (n ≡ length text → ⊥) → n < length text
before_end text n e h = let le = prefix_len-le-length (λ c. not (feed c)) text in omega (arith, e, h, le)

split_some : (xs : List ℕ) → (y : List ℕ) × (more : List (List ℕ)) × (slice_split feed xs ≡ y ∷ more)
split_some [] = ([], [], refl)
split_some (x ∷ xs) = elim (cases_Bool (feed x)) [
  | inl e ↦ ([], slice_split feed xs, rw e refl)
  | inr e ↦ let (y, more, is) = split_some xs in (x ∷ y, more, rw (e, is) refl)
]

-- what stands before the first line feed, without a carriage return at its end, is the first line
pub line_cut : (text : List ℕ) (n : ℕ) → n ≡ position_or_len feed text → n < length text → lines text ≡ strip_carriage_return (take n text) ∷ lines (drop (n + 1) text)
line_cut text n e lt =
    let within : position_or_len feed text < length text = omega (arith, e, lt) in
    let cut = slice_split_first feed text 0 within in
    let (y, more, is) = split_some (drop (position_or_len feed text + 1) text) in
    rw (e, cut, is) refl
