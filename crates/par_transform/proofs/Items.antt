-- Items with their indexes, and runs without a test over lists of one length.
use Rattle.std.proofs.Common.{◌≡◌, ℕ, ◌+◌, inl, inr, false, List, [], ◌∷◌, length, map, ℤ, Result, Ok, Err, IfOk, pos, ◌+ℤ◌, ◌*ℤ◌, ◌<ℤ◌, refl, ap, ◌∙◌, subst, arith}
use Rattle.std.specs.List.{zip, enumerate_from, range_with_len}
use Rattle.std.proofs.lemmas.Bool.{cases_lt}
use Rattle.std.proofs.lemmas.Int.{ints}
use Rattle.std.proofs.lemmas.List.{length-map}
use Rattle.std.proofs.lemmas.List.FromFn.{length-range_with_len}
use Rattle.std.proofs.lemmas.Slice.Zip.{length-zip}
use Rattle.par_splitter.specs.Range.{IsRange, IsRangeCount}
use Rattle.par_task.specs.Marking.{marks_of, no_test}
use Rattle.par_task.specs.Manners.{Manner, IsRunBy}
use Rattle.par_task.specs.declared.audit.Leaf.{Leaf}
use Rattle.par_transform.specs.Indexes.{indexes, with_indexes}
use Rattle.par_jobs.specs.Runs.{IsRunOver, untested}

same_marks : {X Y : Type 0} (xs : List X) (ys : List Y) → length xs ≡ length ys → marks_of no_test (map untested xs) ≡ marks_of no_test (map untested ys)
same_marks [] [] e = refl
same_marks [] (y ∷ ys) e = absurd (omega (arith, e))
same_marks (x ∷ xs) [] e = absurd (omega (arith, e))
same_marks (x ∷ xs) (y ∷ ys) e = ap (λ l. false ∷ l) (same_marks xs ys (omega (arith, e)))

-- a run without a test over as many items
run_as : {X Y : Type 0} (xs : List X) (ys : List Y) (manner : Manner) (leaves : List Leaf) → length xs ≡ length ys → IsRunOver no_test untested xs manner leaves → IsRunOver no_test untested ys manner leaves
run_as xs ys manner leaves e r =
    subst (λ n. IsRunBy manner no_test (marks_of no_test (map untested ys)) n leaves) e
    (subst (λ ms. IsRunBy manner no_test ms (length xs) leaves) (same_marks xs ys e) r)

-- and so its answer tells of them, where there is one
pub ran_as :
    {X Y P E : Type 0} (xs : List X) (ys : List Y) (manner : Manner) (r : Result (P × List Leaf) E) → length xs ≡ length ys → IfOk r (λ a. IsRunOver no_test untested xs manner a.1) →
    IfOk r (λ a. IsRunOver no_test untested ys manner a.1)
ran_as xs ys manner (Ok a) e h = run_as xs ys manner a.1 e h
ran_as xs ys manner (Err e) _ h = tt

-- the numbers from 0 on and before n are n
pub count_up : (n : ℕ) → IsRangeCount (pos 0) (pos n) (pos 1) n
count_up n = record {
  inside = λ i h. (λ _. omega (arith, ints), λ m. omega (arith, ints));
  ended = λ h.
      let u : pos 0 <ℤ pos 1 = omega (arith, ints) in
      let l : (pos 0 +ℤ pos n *ℤ pos 1) <ℤ pos n = h.0 u in
      omega (arith, ints);
}

one_step : (i : ℕ) → pos 0 +ℤ pos i *ℤ pos 1 ≡ pos i
one_step i = omega (arith, ints)

steps : (l : List ℕ) → map (λ i. pos 0 +ℤ pos i *ℤ pos 1) l ≡ map pos l
steps [] = refl
steps (i ∷ l) = ap (λ z. z ∷ map (λ j. pos 0 +ℤ pos j *ℤ pos 1) l) (one_step i) ∙ ap (λ t. pos i ∷ t) (steps l)

as_many : (n : ℕ) (xs : List ℤ) → IsRange (pos 0) (pos n) (pos 1) xs → length xs ≡ n
as_many n xs range =
    let u : pos 0 <ℤ pos 1 = omega (arith, ints) in
    elim (cases_lt (length xs) n) [
      | inl fewer ↦ absurd (range.count.ended (λ _. omega (arith, ints), λ m. omega (arith, ints)))
      | inr enough ↦ elim (cases_lt n (length xs)) [
        | inl more ↦ let l : (pos 0 +ℤ pos n *ℤ pos 1) <ℤ pos n = (range.count.inside n more).0 u in absurd (omega (arith, ints))
        | inr no_more ↦ omega (arith, enough, no_more)
      ]
    ]

-- the range from 0 on and before n is the indexes of n items
pub is_indexes : (n : ℕ) (end : ℤ) (xs : List ℤ) → end ≡ pos n → IsRange (pos 0) end (pos 1) xs → xs ≡ indexes n
is_indexes n end xs e ranged =
    let range = subst (λ b. IsRange (pos 0) b (pos 1) xs) e ranged in
    range.numbers ∙ (ap (λ k. map (λ i. pos 0 +ℤ pos i *ℤ pos 1) (range_with_len 0 k)) (as_many n xs range) ∙ steps (range_with_len 0 n))

zip_from : {X : Type 0} (k : ℕ) (xs : List X) → zip xs (map pos (range_with_len k (length xs))) ≡ map (λ (e : X × ℕ). (e.0, pos e.1)) (map (λ (e : ℕ × X). (e.1, e.0)) (enumerate_from k xs))
zip_from k [] = refl
zip_from k (x ∷ xs) = ap (λ l. (x, pos k) ∷ l) (zip_from (k + 1) xs)

-- items with their indexes beside them are the items with their indexes
pub zip_indexes : {X : Type 0} (xs : List X) → zip xs (indexes (length xs)) ≡ with_indexes xs
zip_indexes xs = zip_from 0 xs

pub length_pairs : {X : Type 0} (xs : List X) (ks : List ℤ) → ks ≡ indexes (length xs) → length (zip xs ks) ≡ length xs
length_pairs xs ks e = omega (arith, length-zip xs ks, ap length e, length-map (range_with_len 0 (length xs)) pos, length-range_with_len 0 (length xs))
