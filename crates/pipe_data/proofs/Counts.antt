-- How many records one counts up to does not matter, where it is more than the bytes.
use Rattle.std.proofs.Common.{◌≡◌, ◌<◌, ◌+◌, ◌⊎◌, ◌∷◌, ◌∙◌, sym, refl, ap, inl, inr, ℕ, zero, suc, List, [], length, Option, Some, None, arith}
use Rattle.std.proofs.lemmas.Bool.{cases_Bool}
use Rattle.csv.specs.Machine.{Read, next_record, step, is_end, ends_at_end, fields_after, field_after}
use Rattle.csv.specs.Reading.{records_from}
use Rattle.csv.specs.declared.parser.Config.{Config}
use Rattle.csv.specs.declared.parser.State.{State}
use Rattle.csv.specs.declared.parser.State.TheVariants as st

-- a record that is read leaves fewer bytes, or the end of the text
leaves_less : (cfg : Config) (s : State) (f : List (List ℕ)) (p xs : List ℕ) (q : Read) → next_record cfg s f p xs ≡ Some q → (length q.2 < length xs) ⊎ ((q.1 ≡ st.StartRecord) × (q.2 ≡ []))
unfolding next_record
leaves_less cfg s f p [] q h =
    elim (cases_Bool (ends_at_end s)) [
      | inl ended_here ↦ let e = rw ended_here at h in inr (grind (arith, e))
      | inr goes ↦ let e = rw goes at h in cc e
    ]
leaves_less cfg s f p (c ∷ rest) q h =
    elim (cases_Bool (is_end (step cfg s c).1)) [
      | inl ended_here ↦ let e = rw ended_here at h in inl (grind (arith, e))
      | inr goes ↦ let e = rw goes at h in
          elim (leaves_less cfg (step cfg s c).0 (fields_after (step cfg s c).1 f p) (field_after (step cfg s c).1 c p) rest q e) [
            | inl less ↦ inl (omega (arith, less))
            | inr ended ↦ inr ended
          ]
    ]

-- nothing more is read at the end
at_end : (cfg : Config) → next_record cfg st.StartRecord [] [] [] ≡ None
unfolding next_record
at_end cfg = refl

none_left : (cfg : Config) (n : ℕ) → records_from cfg n st.StartRecord [] ≡ []
unfolding records_from
none_left cfg zero = refl
none_left cfg (suc n) = rw (at_end cfg) refl

ended_both : (cfg : Config) (s : State) (xs : List ℕ) (n m : ℕ) → s ≡ st.StartRecord → xs ≡ [] → records_from cfg n s xs ≡ records_from cfg m s xs
ended_both cfg s xs n m e z = rw (e, z) (none_left cfg n ∙ sym (none_left cfg m))

-- nothing is left where no record is read
pub left_none : (cfg : Config) (s : State) (xs : List ℕ) (n : ℕ) → next_record cfg s [] [] xs ≡ None → records_from cfg n s xs ≡ []
unfolding records_from
left_none cfg s xs zero h = refl
left_none cfg s xs (suc n) h = rw h refl

one_turn : (cfg : Config) (s : State) (xs : List ℕ) (q : Read) (n : ℕ) → next_record cfg s [] [] xs ≡ Some q → records_from cfg (suc n) s xs ≡ q.0 ∷ records_from cfg n q.1 q.2
unfolding records_from
one_turn cfg s xs q n h = rw h refl

turned : (cfg : Config) (s : State) (xs : List ℕ) (n m : ℕ) (o : Option Read) → next_record cfg s [] [] xs ≡ o → ((q : Read) → length q.2 < length xs → records_from cfg n q.1 q.2 ≡ records_from cfg m q.1 q.2) → records_from cfg (suc n) s xs ≡ records_from cfg (suc m) s xs
turned cfg s xs n m None e again = left_none cfg s xs (suc n) e ∙ sym (left_none cfg s xs (suc m) e)
turned cfg s xs n m (Some q) e again =
    let rest : records_from cfg n q.1 q.2 ≡ records_from cfg m q.1 q.2 =
    elim (leaves_less cfg s [] [] xs q e) [
      | inl less ↦ again q less
      | inr ended ↦ ended_both cfg q.1 q.2 n m ended.0 ended.1
    ] in
    one_turn cfg s xs q n e ∙ (ap (λ t. q.0 ∷ t) rest ∙ sym (one_turn cfg s xs q m e))

stable : (cfg : Config) (s : State) (xs : List ℕ) (n m : ℕ) → length xs < n → length xs < m → records_from cfg n s xs ≡ records_from cfg m s xs
stable cfg s xs zero m a b = absurd (omega (arith, a))
stable cfg s xs (suc n) zero a b = absurd (omega (arith, b))
stable cfg s xs (suc n) (suc m) a b = turned cfg s xs n m (next_record cfg s [] [] xs) refl (λ q less. stable cfg q.1 q.2 n m (omega (arith, less, a)) (omega (arith, less, b)))

-- what is left behind a record that is read
pub left_next : (cfg : Config) (s : State) (xs : List ℕ) (q : Read) → next_record cfg s [] [] xs ≡ Some q → records_from cfg (length xs + 1) s xs ≡ q.0 ∷ records_from cfg (length q.2 + 1) q.1 q.2
left_next cfg s xs q e =
    let more : length xs + 1 ≡ suc (length xs) = omega arith in
    let rest : records_from cfg (length xs) q.1 q.2 ≡ records_from cfg (length q.2 + 1) q.1 q.2 =
    elim (leaves_less cfg s [] [] xs q e) [
      | inl less ↦ stable cfg q.1 q.2 (length xs) (length q.2 + 1) less (omega arith)
      | inr ended ↦ ended_both cfg q.1 q.2 (length xs) (length q.2 + 1) ended.0 ended.1
    ] in
    rw more (one_turn cfg s xs q (length xs) e ∙ ap (λ t. q.0 ∷ t) rest)
