-- Rows beside the numbers of a range.
use Rattle.std.proofs.Common.{◌≡◌, ◌≢◌, ℕ, zero, suc, ◌+◌, ◌*◌, ◌<◌, ◌≤◌, min, true, false, Bool, T, not, cond, List, [], ◌∷◌, length, map, refl, ap, sym, ◌∙◌, subst, arith, ℤ, pos, negsuc, ◌+ℤ◌, ◌*ℤ◌, neg_ℤ, ◌<ℤ◌, ◌≤ℤ◌}
use Rattle.std.specs.Prelude.{FitsSigned, int_lt}
use Rattle.std.specs.Int.{w64}
use Rattle.std.specs.Int.Signed.{lt_z_yes, lt_z_no}
use Rattle.std.specs.List.{range_with_len, zip}
use Rattle.std.proofs.Math.IntN.{zero-*ℤ, +ℤ_idr}
use Rattle.std.proofs.Math.Nat.{mul-le-mul_right}
use Rattle.std.proofs.lemmas.Int.{ints, by_lt_z}
use Rattle.std.proofs.lemmas.List.{length-map, map-id}
use Rattle.par_rows.specs.declared.row.Row.{Row}
use Rattle.par_rows.specs.declared.value.Value.TheVariants as v
use Rattle.par_splitter.specs.Range.{IsBefore, IsRange, IsRangeCount, IsReached, stepped}
use Rattle.par_task.specs.Manners.{Manner}
use Rattle.par_task.specs.Marking.{no_test}
use Rattle.par_task.specs.declared.audit.Leaf.{Leaf}
use Rattle.par_jobs.specs.Runs.{IsRunOver, untested}
use Rattle.pipe_stages.specs.Ranges.{AreFirst}
use Rattle.pipe_stages.specs.Stages.{comes_before, ranged, with_last}
use Rattle.pipe_stages.proofs.Lengths.{run_as}

-- ---- the numbers one by one

step_sum : (a c : ℤ) (i : ℕ) → a +ℤ pos (i + 1) *ℤ c ≡ (a +ℤ c) +ℤ pos i *ℤ c
step_sum a (pos m) i = omega (arith, ints)
step_sum a (negsuc m) i = omega (arith, ints)

later : (a c : ℤ) (i n : ℕ) → map (λ k. a +ℤ pos k *ℤ c) (range_with_len (i + 1) n) ≡ map (λ k. (a +ℤ c) +ℤ pos k *ℤ c) (range_with_len i n)
later a c i zero = refl
later a c i (suc n) = λ j. step_sum a c i j ∷ later a c (i + 1) n j

first_number : (a c : ℤ) → a +ℤ pos 0 *ℤ c ≡ a
first_number a c = rw zero-*ℤ (+ℤ_idr a)

stepped_next : (a c : ℤ) (n : ℕ) → stepped a c (suc n) ≡ a ∷ stepped (a +ℤ c) c n
stepped_next a c n = λ j. first_number a c j ∷ later a c 0 n j

-- ---- which of them lie before the end

told : (a b : ℤ) (t : Bool) → int_lt a b ≡ t → a <ℤ b → t ≡ true
told a b true e h = refl
told a b false e h = absurd (omega (arith, ints, lt_z_no {a = a} {b = b} (subst (λ x. T (not x)) (sym e) tt)))

untold : (a b : ℤ) (t : Bool) → int_lt a b ≡ t → b ≤ℤ a → t ≡ false
untold a b false e h = refl
untold a b true e h = absurd (omega (arith, ints, lt_z_yes {a = a} {b = b} (subst T (sym e) tt)))

lt_true : (a b : ℤ) → a <ℤ b → int_lt a b ≡ true
lt_true a b h = told a b (int_lt a b) refl h

lt_false : (a b : ℤ) → b ≤ℤ a → int_lt a b ≡ false
lt_false a b h = untold a b (int_lt a b) refl h

below_zero : (c : ℤ) → c ≤ℤ pos 0 → c ≢ pos 0 → c <ℤ pos 0
below_zero (pos zero) h some = absurd (some refl)
below_zero (pos (suc k)) h some = absurd (omega (arith, ints))
below_zero (negsuc k) h some = omega (arith, ints)

before_is : (a b c : ℤ) → IsBefore c a b → c ≢ pos 0 → comes_before c a b ≡ true
before_is a b c h some =
    by_lt_z (pos 0) c
    (λ up. rw (lt_true (pos 0) c up) (lt_true a b (h.0 up)))
    (λ down. rw (lt_false (pos 0) c down) (lt_true b a (h.1 (below_zero c down some))))

past_is : (a b c : ℤ) → ¬ IsBefore c a b → c ≢ pos 0 → comes_before c a b ≡ false
past_is a b c h some =
    by_lt_z (pos 0) c
    (λ up. rw (lt_true (pos 0) c up) (by_lt_z a b (λ l. absurd (h (λ _. l, λ m. absurd (omega (arith, ints, up, m))))) (λ no. lt_false a b no)))
    (λ down. rw (lt_false (pos 0) c down) (by_lt_z b a (λ l. absurd (h (λ m. absurd (omega (arith, ints, down, m)), λ _. l))) (λ no. lt_false b a no)))

-- without the first number
count_next : (a b c : ℤ) (n : ℕ) → IsRangeCount a b c (suc n) → IsRangeCount (a +ℤ c) b c n
count_next a b c n is =
    let e : suc n ≡ n + 1 = omega arith in
    let more : IsRangeCount a b c (n + 1) = subst (IsRangeCount a b c) e is in
    record {
      inside = λ i h. subst (λ x. IsBefore c x b) (step_sum a c i) (more.inside (i + 1) (omega arith));
      ended = λ h. more.ended (subst (λ x. IsBefore c x b) (sym (step_sum a c n)) h);
    }

abbrev pub number : Row × ℤ → Row
number pair = with_last pair.0 (v.Int pair.1)

range_ends : (a b c : ℤ) (row : Row) (rows : List Row) → comes_before c a b ≡ false → ranged a b c (row ∷ rows) ≡ []
range_ends a b c row rows h = ap (λ t. cond t (with_last row (v.Int a) ∷ ranged (a +ℤ c) b c rows) []) h

range_goes_on : (a b c : ℤ) (row : Row) (rows : List Row) → comes_before c a b ≡ true → ranged a b c (row ∷ rows) ≡ with_last row (v.Int a) ∷ ranged (a +ℤ c) b c rows
range_goes_on a b c row rows h = ap (λ t. cond t (with_last row (v.Int a) ∷ ranged (a +ℤ c) b c rows) []) h

-- rows beside the first numbers of a range, where these are at most as many as the rows
pub beside : (a b c : ℤ) (count n : ℕ) (rows : List Row) → c ≢ pos 0 → n ≡ length rows → IsRangeCount a b c count → map number (zip rows (stepped a c (min count n))) ≡ ranged a b c rows
beside a b c count n [] some e is = refl
beside a b c zero n (row ∷ rows) some e is =
    let out : ¬ IsBefore c a b = subst (λ x. ¬ IsBefore c x b) (first_number a c) is.ended in
    let m : min 0 n ≡ 0 = omega arith in
    ap (λ k. map number (zip (row ∷ rows) (stepped a c k))) m ∙ sym (range_ends a b c row rows (past_is a b c out some))
beside a b c (suc count) n (row ∷ rows) some e is =
    let h : IsBefore c a b = subst (λ x. IsBefore c x b) (first_number a c) (is.inside 0 (omega arith)) in
    let m : min (suc count) n ≡ suc (min count (length rows)) = omega (arith, e) in
    ap (λ k. map number (zip (row ∷ rows) (stepped a c k))) m
    ∙ (ap (λ l. map number (zip (row ∷ rows) l)) (stepped_next a c (min count (length rows)))
    ∙ (ap (λ l. with_last row (v.Int a) ∷ l) (beside (a +ℤ c) b c count (length rows) rows some refl (count_next a b c count is))
    ∙ sym (range_goes_on a b c row rows (before_is a b c h some))))

-- ---- a range that ends at one of its numbers

end_up : (a : ℤ) (n k : ℕ) → IsRangeCount a (a +ℤ pos n *ℤ pos (suc k)) (pos (suc k)) n
end_up a n k = record {
  inside = λ i h. let q : suc i * suc k ≤ n * suc k = mul-le-mul_right (suc k) h in (λ _. omega (arith, ints), λ m. omega (arith, ints));
  ended = λ h. let l = h.0 (omega (arith, ints)) in omega (arith, ints);
}

end_down : (a : ℤ) (n k : ℕ) → IsRangeCount a (a +ℤ pos n *ℤ negsuc k) (negsuc k) n
end_down a n k = record {
  inside = λ i h. let q : suc i * suc k ≤ n * suc k = mul-le-mul_right (suc k) h in (λ m. omega (arith, ints), λ _. omega (arith, ints));
  ended = λ h. let l = h.1 (omega (arith, ints)) in omega (arith, ints);
}

pub end_there : (a c : ℤ) (n : ℕ) → c ≢ pos 0 → IsRangeCount a (a +ℤ pos n *ℤ c) c n
end_there a (pos zero) n some = absurd (some refl)
end_there a (pos (suc k)) n some = end_up a n k
end_there a (negsuc k) n some = end_down a n k

-- a range has one count
pub one_count : (a b c : ℤ) (m n : ℕ) → IsRangeCount a b c m → IsRangeCount a b c n → m ≡ n
one_count a b c m n hm hn = grind arith

-- these are the numbers of a range of so many
pub numbers_are : (a b c : ℤ) (n : ℕ) (xs : List ℤ) → IsRangeCount a b c n → IsRange a b c xs → xs ≡ stepped a c n
numbers_are a b c n xs is range = range.numbers ∙ ap (stepped a c) (one_count a b c (length xs) n range.count is)

-- ---- a number of a range is a value of i64

between : (x y z : ℤ) → FitsSigned w64 x → FitsSigned w64 z → x ≤ℤ y → y ≤ℤ z → FitsSigned w64 y
between x (pos n) (pos m) fx fz h k = let l = fz.sfits in record { sfits = omega (arith, ints, l) }
between x (pos n) (negsuc m) fx fz h k = absurd (omega (arith, ints))
between (negsuc l) (negsuc n) z fx fz h k = let r = fx.sfits in record { sfits = omega (arith, ints, r) }
between (pos l) (negsuc n) z fx fz h k = absurd (omega (arith, ints))

fits_within : (a b c : ℤ) (n : ℕ) → FitsSigned w64 a → FitsSigned w64 b → c ≢ pos 0 → IsBefore c (a +ℤ pos n *ℤ c) b → FitsSigned w64 (a +ℤ pos n *ℤ c)
fits_within a b (pos zero) n fa fb some h = absurd (some refl)
fits_within a b (pos (suc k)) n fa fb some h =
    let below : (a +ℤ pos (n * suc k)) <ℤ b = h.0 (omega (arith, ints)) in
    between a _ b fa fb (omega (arith, ints)) (omega (arith, ints))
fits_within a b (negsuc k) n fa fb some h =
    let above : b <ℤ (a +ℤ neg_ℤ (pos (n * suc k))) = h.1 (omega (arith, ints)) in
    between b _ a fb fa (omega (arith, ints)) (omega (arith, ints))

-- the range that ends at the number n steps on, of a range that has it
pub cut_range :
    (a b c : ℤ) (count n : ℕ) (end : ℤ) → FitsSigned w64 a → FitsSigned w64 b → c ≢ pos 0 → IsRangeCount a b c count → n < count → IsReached a c n end → IsRangeCount a end c n
cut_range a b c count n end fa fb some is more reach =
    subst (λ e. IsRangeCount a e c n) (sym (reach (fits_within a b c n fa fb some (is.inside n more)))) (end_there a c n some)

-- what is said of three numbers in their bits
pub unbits : (P : ℤ → ℤ → ℤ → Type 0) (a b c a' b' c' : ℤ) → a' ≡ a → b' ≡ b → c' ≡ c → P a' b' c' → P a b c
unbits P a b c a' b' c' ea eb ec h = subst (λ x. P x b c) ea (subst (λ y. P a' y c) eb (subst (λ z. P a' b' z) ec h))

-- what a run over the pairs gives
pub zip_gives :
    (a b c : ℤ) (n : ℕ) (manner : Manner) (rows items all : List Row) (numbers : List ℤ) (leaves : List Leaf) → c ≢ pos 0 → n ≡ length rows → items ≡ rows → AreFirst a b c n numbers →
    map (λ x. x) all ≡ map number (zip items numbers) → IsRunOver no_test untested (zip items numbers) manner leaves →
    (all ≡ ranged a b c rows) × IsRunOver no_test untested (ranged a b c rows) manner leaves
zip_gives a b c n manner rows items all numbers leaves some e same first h run =
    let whole : map number (zip items numbers) ≡ ranged a b c rows =
    ap (λ r. map number (zip r numbers)) same ∙ (ap (λ l. map number (zip rows l)) first.2 ∙ beside a b c first.0 n rows some e first.1) in (
      sym (map-id all) ∙ (h ∙ whole),
      run_as (zip items numbers) (ranged a b c rows) manner leaves (sym (length-map (zip items numbers) number) ∙ ap length whole) run,
    )
