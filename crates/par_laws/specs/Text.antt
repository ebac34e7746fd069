-- Text: words on texts, each seen as the list of its characters.
use Rattle.std.specs.Prelude.{ℕ, Bool, List, nat_eq, encode_utf8_all}
use Rattle.std.specs.Ordering.{nat_cmp}
use Rattle.std.specs.Cmp.Lexicographic.{pointwise, slice_cmp}
use Rattle.std.specs.declared.cmp.Ordering.{Ordering}

-- whether two texts have the same bytes
abbrev pub text_eq : List ℕ → List ℕ → Bool
text_eq a b = pointwise nat_eq (encode_utf8_all a) (encode_utf8_all b)

-- the order of two texts, by their bytes from the first on
abbrev pub text_cmp : List ℕ → List ℕ → Ordering
text_cmp a b = slice_cmp nat_cmp (encode_utf8_all a) (encode_utf8_all b)
