-- Fields that have values are UTF-8.
use Rattle.std.proofs.Common.{◌≡◌, ◌<◌, ◌&&◌, refl, ℕ, zero, suc, ℤ, Bool, true, false, List, [], ◌∷◌, length, get_or, nat_lt, Option, Some, None, option_map, inl, inr, arith}
use Rattle.std.specs.List.{list_all}
use Rattle.std.specs.Char.{is_ascii_digit}
use Rattle.std.specs.Str.{is_utf8}
use Rattle.std.specs.Str.Parse.{starts_with_minus}
use Rattle.std.proofs.lemmas.Bool.{cases_Bool}
use Rattle.std.proofs.lemmas.Bool.Decides.{nat_tests}
use Rattle.std.proofs.lemmas.Str.{IsUtf8-from_ascii, is_utf8-from_IsUtf8}
use Rattle.par_rows.specs.declared.schema.Column.{Column}
use Rattle.par_rows.specs.declared.schema.ColumnKind.{ColumnKind}
use Rattle.par_rows.specs.declared.schema.ColumnKind.TheVariants as sorts
use Rattle.par_rows.specs.declared.value.Value.{Value}
use Rattle.par_rows.specs.declared.value.Value.TheVariants as v
use Rattle.pipe_number.specs.Spelled.{are_digits, signed, spelled}
use Rattle.pipe_data.specs.Data.{utf8_chars, value_of, values_of, with_value}

both : (x y : Bool) → (x && y) ≡ true → (x ≡ true) × (y ≡ true)
both true y e = (refl, e)
both false y e = cc e

digit : (d : ℕ) → is_ascii_digit d ≡ true → d < 128
digit d e = grind (arith, nat_tests, e)

ascii_cons : (x : ℕ) (xs : List ℕ) → x < 128 → ((i : ℕ) → get_or xs i 0 < 128) → (i : ℕ) → get_or (x ∷ xs) i 0 < 128
ascii_cons x xs h k zero = h
ascii_cons x xs h k (suc i) = k i

ascii_digits : (ds : List ℕ) → list_all is_ascii_digit ds ≡ true → (i : ℕ) → get_or ds i 0 < 128
ascii_digits [] e i = omega arith
ascii_digits (d ∷ ds) e i = let k = both (is_ascii_digit d) (list_all is_ascii_digit ds) e in ascii_cons d ds (digit d k.0) (ascii_digits ds k.1) i

none : (n : ℤ) → None ≡ Some n → ⊥
none n e = cc e

digits_of : (negative : Bool) (ds : List ℕ) (n : ℤ) → signed negative ds ≡ Some n → list_all is_ascii_digit ds ≡ true
digits_of negative ds n e =
    elim (cases_Bool (are_digits ds)) [
      | inl t ↦ (both (nat_lt 0 (length ds)) (list_all is_ascii_digit ds) t).1
      | inr u ↦ absurd (none n (rw u at e))
    ]

valid_ascii : (bs : List ℕ) → ((i : ℕ) → get_or bs i 0 < 128) → is_utf8 bs ≡ true
valid_ascii bs k = is_utf8-from_IsUtf8 bs (IsUtf8-from_ascii bs k)

-- a text that spells a number
valid_number : (f : List ℕ) (n : ℤ) → spelled f ≡ Some n → is_utf8 f ≡ true
valid_number [] n e = valid_ascii [] (λ i. omega arith)
valid_number (b ∷ bs) n e =
    elim (cases_Bool (starts_with_minus (b ∷ bs))) [
      | inl t ↦
          let minus : b < 128 = grind (arith, nat_tests, t) in
          valid_ascii (b ∷ bs) (ascii_cons b bs minus (ascii_digits bs (digits_of true bs n (rw t at e))))
      | inr u ↦ valid_ascii (b ∷ bs) (ascii_digits (b ∷ bs) (digits_of false (b ∷ bs) n (rw u at e)))
    ]

valid_text : (f : List ℕ) (x : List ℕ) → utf8_chars f ≡ Some x → is_utf8 f ≡ true
valid_text f x e = elim (cases_Bool (is_utf8 f)) [
  | inl t ↦ t
  | inr u ↦ cc (rw u at e)
]

number_of : (f : List ℕ) (o : Option ℤ) (x : Value) → spelled f ≡ o → option_map v.Int o ≡ Some x → is_utf8 f ≡ true
number_of f None x s e = cc e
number_of f (Some n) x s e = valid_number f n s

text_of : (f : List ℕ) (o : Option (List ℕ)) (x : Value) → utf8_chars f ≡ o → option_map v.Text o ≡ Some x → is_utf8 f ≡ true
text_of f None x s e = cc e
text_of f (Some t) x s e = valid_text f t s

-- a field that has a value
valid_value : (kind : ColumnKind) (f : List ℕ) (x : Value) → value_of kind f ≡ Some x → is_utf8 f ≡ true
valid_value sorts.Int f x e = number_of f (spelled f) x refl e
valid_value sorts.Text f x e = text_of f (utf8_chars f) x refl e

both_true : (a b : Bool) → a ≡ true → b ≡ true → (a && b) ≡ true
both_true a b e f = rw (e, f) refl

valid_both :
    (kind : ColumnKind) (f : List ℕ) (fs : List (List ℕ)) (o : Option Value) (r : Option (List Value)) (vs : List Value) →
    value_of kind f ≡ o → ((xs : List Value) → r ≡ Some xs → list_all is_utf8 fs ≡ true) → with_value o r ≡ Some vs → list_all is_utf8 (f ∷ fs) ≡ true
valid_both kind f fs None r vs a rest e = cc e
valid_both kind f fs (Some x) None vs a rest e = cc e
valid_both kind f fs (Some x) (Some xs) vs a rest e = both_true (is_utf8 f) (list_all is_utf8 fs) (valid_value kind f x a) (rest xs refl)

-- fields that all have values
pub valid_fields : (cs : List Column) (fs : List (List ℕ)) (vs : List Value) → values_of cs fs ≡ Some vs → list_all is_utf8 fs ≡ true
valid_fields [] [] vs e = refl
valid_fields [] (f ∷ fs) vs e = cc e
valid_fields (c ∷ cs) [] vs e = cc e
valid_fields (c ∷ cs) (f ∷ fs) vs e = valid_both c.kind f fs (value_of c.kind f) (values_of cs fs) vs refl (valid_fields cs fs) e
