-- How many numbers a range has, and how its list is taken apart.
use Rattle.std.proofs.Common.{◌≡◌, ◌≢◌, ℕ, zero, suc, ◌*◌, ◌<◌, ◌≤◌, refl, sym, ◌∙◌, arith, ℤ, pos, negsuc, neg_ℤ, ◌+ℤ◌, ◌-ℤ◌, ◌*ℤ◌, ◌<ℤ◌, ◌≤ℤ◌}
use Rattle.std.specs.Prelude.{unsigned_abs}
use Rattle.std.specs.Int.{div_ceil}
use Rattle.std.proofs.Math.Nat.{mul-le-mul_right}
use Rattle.std.proofs.lemmas.Grind.{div_ceil_times}
use Rattle.std.proofs.Math.IntN.{zero-*ℤ, +ℤ_idr}
use Rattle.std.proofs.lemmas.Int.{ints}
use Rattle.std.specs.Prelude.{FitsSigned}
use Rattle.std.specs.Int.{w64}
use Rattle.par_splitter.specs.Range.{AllFit, IsBefore, IsRangeCount}

-- as many multiples of m lie below d as d / m, rounded up
multiple_below : (d m i : ℕ) → 0 < m → i < div_ceil d m → i * m < d
multiple_below d m i some h =
    let r = (div_ceil_times d m some).1 in
    let q : suc i * m ≤ div_ceil d m * m = mul-le-mul_right m h in
    omega arith

-- how far apart a and b are, from the one and from the other
gap_up : (a b z : ℤ) → z ≡ a -ℤ b → a <ℤ b → b ≡ a +ℤ pos (unsigned_abs z)
gap_up a b (pos n) e h = absurd (omega (arith, ints))
gap_up a b (negsuc n) e h = omega (arith, ints)

gap_down : (a b z : ℤ) → z ≡ a -ℤ b → b <ℤ a → b ≡ a -ℤ pos (unsigned_abs z)
gap_down a b (pos n) e h = omega (arith, ints)
gap_down a b (negsuc n) e h = absurd (omega (arith, ints))

-- counting up from a, to a number d above it
up_count : (a b : ℤ) (d m : ℕ) → 0 < m → b ≡ a +ℤ pos d → IsRangeCount a b (pos m) (div_ceil d m)
up_count a b d m some e = record {
  inside = λ i h. let k : i * m < d = multiple_below d m i some h in (λ _. omega (arith, ints), λ n. omega (arith, ints));
  ended = λ h.
      let k : d ≤ div_ceil d m * m = (div_ceil_times d m some).0 in
      let u : pos 0 <ℤ pos m = omega (arith, ints) in
      let l : (a +ℤ pos (div_ceil d m * m)) <ℤ b = h.0 u in
      omega (arith, ints);
}

-- counting down from a, to a number d below it
down_count : (a b : ℤ) (d k : ℕ) → b ≡ a -ℤ pos d → IsRangeCount a b (negsuc k) (div_ceil d (suc k))
down_count a b d k e = record {
  inside = λ i h. let l : i * suc k < d = multiple_below d (suc k) i (omega arith) h in (λ n. omega (arith, ints), λ _. omega (arith, ints));
  ended = λ h.
      let l : d ≤ div_ceil d (suc k) * suc k = (div_ceil_times d (suc k) (omega arith)).0 in
      let u : negsuc k <ℤ pos 0 = omega (arith, ints) in
      let r : b <ℤ (a +ℤ neg_ℤ (pos (div_ceil d (suc k) * suc k))) = h.1 u in
      omega (arith, ints);
}

counted : (a b c : ℤ) → c ≢ pos 0 → IsBefore c a b → IsRangeCount a b c (div_ceil (unsigned_abs (a -ℤ b)) (unsigned_abs c))
counted a b (pos zero) some h = absurd (some refl)
counted a b (pos (suc k)) some h =
    up_count a b _ (suc k) (omega arith) (gap_up a b (a -ℤ b) refl (h.0 (omega (arith, ints))))
counted a b (negsuc k) some h = down_count a b _ k (gap_down a b (a -ℤ b) refl (h.1 (omega (arith, ints))))

-- a range whose step leads away has no number
none_counted : (a b c : ℤ) → ¬ IsBefore c a b → IsRangeCount a b c 0
none_counted a b c out = record {
  inside = λ i h. absurd (omega arith);
  ended = λ h.
      let e : a +ℤ pos 0 *ℤ c ≡ a = rw zero-*ℤ (+ℤ_idr a) in
      out (rw e at h);
}

-- the same two, where the code has each number in its bits
pub counted_in_bits : (a b c a' b' c' : ℤ) (n d m : ℕ) → a' ≡ a → b' ≡ b → c' ≡ c → c ≢ pos 0 → IsBefore c' a' b' → n ≡ div_ceil d m → d ≡ unsigned_abs (a' -ℤ b') → m ≡ unsigned_abs c' → IsRangeCount a b c n
counted_in_bits a b c a' b' c' n d m ea eb ec some h en ed em =
    let some' : c' ≢ pos 0 = λ e. some (sym ec ∙ e) in
    rw (en, ed, em, sym ea, sym eb, sym ec) (counted a' b' c' some' h)

pub none_counted_in_bits : (a b c a' b' c' : ℤ) → a' ≡ a → b' ≡ b → c' ≡ c → ¬ IsBefore c' a' b' → IsRangeCount a b c 0
none_counted_in_bits a b c a' b' c' ea eb ec out = rw (sym ea, sym eb, sym ec) (none_counted a' b' c' out)

-- a range has one count
pub one_count : (a b c : ℤ) (m n : ℕ) → IsRangeCount a b c m → IsRangeCount a b c n → m ≡ n
one_count a b c m n hm hn = grind arith

between : (x y z : ℤ) → FitsSigned w64 x → FitsSigned w64 z → x ≤ℤ y → y ≤ℤ z → FitsSigned w64 y
between x (pos n) (pos m) fx fz h k = let l = fz.sfits in record { sfits = omega (arith, ints, l) }
between x (pos n) (negsuc m) fx fz h k = absurd (omega (arith, ints))
between (negsuc l) (negsuc n) z fx fz h k = let r = fx.sfits in record { sfits = omega (arith, ints, r) }
between (pos l) (negsuc n) z fx fz h k = absurd (omega (arith, ints))

-- each number of a range stands between two values of i64
pub fit_between : (a b c : ℤ) (n : ℕ) → FitsSigned w64 a → FitsSigned w64 b → c ≢ pos 0 → IsRangeCount a b c n → AllFit a c n
fit_between a b (pos zero) n fa fb some is i h = absurd (some refl)
fit_between a b (pos (suc k)) n fa fb some is i h =
    let below : (a +ℤ pos (i * suc k)) <ℤ b = (is.inside i h).0 (omega (arith, ints)) in
    between a _ b fa fb (omega (arith, ints)) (omega (arith, ints))
fit_between a b (negsuc k) n fa fb some is i h =
    let above : b <ℤ (a +ℤ neg_ℤ (pos (i * suc k))) = (is.inside i h).1 (omega (arith, ints)) in
    between b _ a fb fa (omega (arith, ints)) (omega (arith, ints))

pub count_in_bits : (a b c a' b' c' : ℤ) (n : ℕ) → a' ≡ a → b' ≡ b → c' ≡ c → IsRangeCount a' b' c' n → IsRangeCount a b c n
count_in_bits a b c a' b' c' n ea eb ec is = rw (sym ea, sym eb, sym ec) is
