-- Order: the order of values and of rows, and its laws.
use Rattle.std.specs.Prelude.{◌≡◌, refl, true, List, [], ◌∷◌, encode_utf8_all}
use Rattle.std.specs.Cmp.{IsTotalOrder, on_total, int_cmp_total, Equal-is}
use Rattle.std.specs.Cmp.Lexicographic.{lists_total, nat_list_cmp_total, same_text, slice_cmp, texts_ties}
use Rattle.std.specs.Ordering.{eq_by_cmp, int_cmp, is_eq, ordering_reverse, ordering_then}
use Rattle.std.specs.declared.cmp.Ordering.{Ordering}
use Rattle.std.specs.declared.cmp.Ordering.TheVariants.{Less, Equal, Greater}
use Rattle.std.proofs.Common.{sym, ap, ◌∙◌}
use Rattle.std.proofs.lemmas.Map.Lookups.{exact_signed}
use Rattle.std.proofs.lemmas.Str.{encodes_same}
use Rattle.par_laws.specs.Text.{text_cmp}
use Rattle.par_rows.specs.declared.value.Value.{Value}
use Rattle.par_rows.specs.declared.value.Value.TheVariants as v
use Rattle.par_rows.specs.declared.row.Row.{Row}

-- numbers by value and before texts, texts by their bytes
abbrev pub value_cmp : Value → Value → Ordering
value_cmp (v.Int a) (v.Int b) = int_cmp a b
value_cmp (v.Int a) (v.Text b) = Less
value_cmp (v.Text a) (v.Int b) = Greater
value_cmp (v.Text a) (v.Text b) = text_cmp a b

-- two lists of values by the first place at which they differ
abbrev pub values_cmp : List Value → List Value → Ordering
values_cmp = slice_cmp value_cmp

-- two rows as the lists of their values
abbrev pub row_cmp : Row → Row → Ordering
row_cmp a b = values_cmp a.values b.values

-- ---- the laws

text_total : IsTotalOrder text_cmp
text_total = on_total encode_utf8_all nat_list_cmp_total

flip : (a b : Value) → value_cmp a b ≡ ordering_reverse (value_cmp b a)
flip (v.Int a) (v.Int b) = int_cmp_total.antisymm a b
flip (v.Int a) (v.Text b) = refl
flip (v.Text a) (v.Int b) = refl
flip (v.Text a) (v.Text b) = text_total.antisymm a b

chain : (a b c : Value) → value_cmp a b ≡ Less → value_cmp b c ≡ Less → value_cmp a c ≡ Less
chain (v.Int a) (v.Int b) (v.Int c) h k = int_cmp_total.trans a b c h k
chain (v.Int a) (v.Int b) (v.Text c) h k = refl
chain (v.Int a) (v.Text b) (v.Int c) h k = cc k
chain (v.Int a) (v.Text b) (v.Text c) h k = refl
chain (v.Text a) (v.Int b) c h k = cc h
chain (v.Text a) (v.Text b) (v.Int c) h k = k
chain (v.Text a) (v.Text b) (v.Text c) h k = text_total.trans a b c h k

alike : (a b c : Value) → value_cmp a b ≡ Equal → value_cmp a c ≡ value_cmp b c
alike (v.Int a) (v.Int b) (v.Int c) h = int_cmp_total.congr a b c h
alike (v.Int a) (v.Int b) (v.Text c) h = refl
alike (v.Int a) (v.Text b) c h = cc h
alike (v.Text a) (v.Int b) c h = cc h
alike (v.Text a) (v.Text b) (v.Int c) h = refl
alike (v.Text a) (v.Text b) (v.Text c) h = text_total.congr a b c h

pub value_total : IsTotalOrder value_cmp
value_total = record { antisymm = flip; trans = chain; congr = alike }

same_value : (a b : Value) → value_cmp a b ≡ Equal → a ≡ b
same_value (v.Int a) (v.Int b) h = ap v.Int (exact_signed a b h)
same_value (v.Int a) (v.Text b) h = cc h
same_value (v.Text a) (v.Int b) h = cc h
same_value (v.Text a) (v.Text b) h = ap v.Text (encodes_same a b (same_text _ _ (sym (texts_ties (encode_utf8_all a) (encode_utf8_all b) ∙ ap is_eq h))))

equal : (r : Ordering) → is_eq r ≡ true → r ≡ Equal
equal r h = (Equal-is r).0 h

-- equal values are one value
pub value_told : (a b : Value) → eq_by_cmp value_cmp a b ≡ true → a ≡ b
value_told a b h = same_value a b (equal (value_cmp a b) h)

pub row_total : IsTotalOrder row_cmp
row_total = on_total (λ (r : Row). r.values) (lists_total value_total)

both_equal : (r s : Ordering) → ordering_then r s ≡ Equal → (r ≡ Equal) × (s ≡ Equal)
both_equal Less s h = cc h
both_equal Equal s h = (refl, h)
both_equal Greater s h = cc h

same_values : (xs ys : List Value) → values_cmp xs ys ≡ Equal → xs ≡ ys
same_values [] [] h = refl
same_values [] (b ∷ ys) h = cc h
same_values (a ∷ xs) [] h = cc h
same_values (a ∷ xs) (b ∷ ys) h =
    let both = both_equal (value_cmp a b) (values_cmp xs ys) h in
    let first : a ≡ b = same_value a b both.0 in
    let rest : xs ≡ ys = same_values xs ys both.1 in
    ap (λ x. x ∷ xs) first ∙ ap (λ rest. b ∷ rest) rest

-- equal rows are one row
pub row_told : (a b : Row) → eq_by_cmp row_cmp a b ≡ true → a ≡ b
row_told a b h = ap (λ values. record { values = values }) (same_values a.values b.values (equal (row_cmp a b) h))
