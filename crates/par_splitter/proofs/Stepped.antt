-- The list of a range is taken apart at any place.
use Rattle.std.proofs.Common.{◌≡◌, ℕ, zero, suc, ◌+◌, ◌∷◌, ◌++◌, length, map, append-nil, refl, sym, ◌∙◌, ap, arith, ℤ, pos, negsuc, ◌+ℤ◌, ◌*ℤ◌}
use Rattle.std.specs.List.{range_with_len}
use Rattle.std.proofs.lemmas.Int.{ints}
use Rattle.std.proofs.lemmas.List.FromFn.{length-map-range_with_len}
use Rattle.std.proofs.Math.IntN.{zero-*ℤ, +ℤ_idr}
use Rattle.par_splitter.specs.Range.{AllFit, IsRange, IsRangeCount, IsReached, stepped}

pub length-stepped : (a c : ℤ) (n : ℕ) → length (stepped a c n) ≡ n
length-stepped a c n = length-map-range_with_len (λ i. a +ℤ pos i *ℤ c) 0 n

step_sum : (a c : ℤ) (k i : ℕ) → a +ℤ pos (k + i) *ℤ c ≡ (a +ℤ pos k *ℤ c) +ℤ pos i *ℤ c
step_sum a (pos m) k i = omega (arith, ints)
step_sum a (negsuc m) k i = omega (arith, ints)

-- equal values at equal distances
same_values : {X : Type 0} (f g : ℕ → X) (i j n : ℕ) → ((t : ℕ) → f (i + t) ≡ g (j + t)) → map f (range_with_len i n) ≡ map g (range_with_len j n)
same_values f g i j zero h = refl
same_values f g i j (suc n) h =
    let first : f i ≡ g j = ap f (omega arith) ∙ h 0 ∙ ap g (omega arith) in
    let rest = same_values f g (i + 1) (j + 1) n (λ t. ap f (omega arith) ∙ h (1 + t) ∙ ap g (omega arith)) in
    rw (first, rest) refl

two_runs : {X : Type 0} (f : ℕ → X) (i k m : ℕ) → map f (range_with_len i (k + m)) ≡ map f (range_with_len i k) ++ map f (range_with_len (i + k) m)
two_runs f i zero m = let e : 0 + m ≡ m = omega arith in let g : i + 0 ≡ i = omega arith in rw (e, g) refl
two_runs f i (suc k) m =
    let e : suc k + m ≡ suc (k + m) = omega arith in
    let g : i + suc k ≡ (i + 1) + k = omega arith in
    rw (e, g) (ap (λ xs. f i ∷ xs) (two_runs f (i + 1) k m))

-- the m numbers from x on, where x is k steps on
pub fit_after : (a c x : ℤ) (k m n : ℕ) → AllFit a c n → k + m ≡ n → IsReached a c k x → AllFit x c m
fit_after a c x k m n fit e reach i h =
    let is : x ≡ a +ℤ pos k *ℤ c = reach (fit k (omega arith)) in
    rw (is, sym (step_sum a c k i)) (fit (k + i) (omega arith))

pub stepped_apart : (a c x : ℤ) (k m n : ℕ) → AllFit a c n → k + m ≡ n → IsReached a c k x → stepped a c n ≡ stepped a c k ++ stepped x c m
stepped_apart a c x k zero n fit e reach =
    let f : n ≡ k = omega arith in
    rw (f, append-nil) refl
stepped_apart a c x k (suc m) n fit e reach =
    let is : x ≡ a +ℤ pos k *ℤ c = reach (fit k (omega arith)) in
    let f : n ≡ k + suc m = omega arith in
    let of_a : ℕ → ℤ = λ i. a +ℤ pos i *ℤ c in
    let of_x : ℕ → ℤ = λ i. x +ℤ pos i *ℤ c in
    let same : (t : ℕ) → of_a (0 + k + t) ≡ of_x (0 + t) = λ t.
    (let l : 0 + k + t ≡ k + t = omega arith in
    let r : 0 + t ≡ t = omega arith in
    rw (l, r, is) (step_sum a c k t)) in
    rw f (two_runs of_a 0 k (suc m) ∙ ap (λ xs. stepped a c k ++ xs) (same_values of_a of_x (0 + k) 0 (suc m) same))

first_number : (a c : ℤ) → a +ℤ pos 0 *ℤ c ≡ a
first_number a c = rw zero-*ℤ (+ℤ_idr a)

-- one step
pub stepped_first : (a c x : ℤ) (m n : ℕ) → AllFit a c n → 1 + m ≡ n → IsReached a c 1 x → stepped a c n ≡ a ∷ stepped x c m
stepped_first a c x m n fit e reach =
    let h = stepped_apart a c x 1 m n fit e reach in
    let f = first_number a c in
    rw f at h

-- where the code has a and c in their bits
pub reached_in_bits : (a c a' c' x : ℤ) (k : ℕ) → a' ≡ a → c' ≡ c → IsReached a' c' k x → IsReached a c k x
reached_in_bits a c a' c' x k ea ec reach = rw (sym ea, sym ec) reach

-- the numbers of a range, as many as it counts
pub is_range : (a b c : ℤ) (n : ℕ) → IsRangeCount a b c n → IsRange a b c (stepped a c n)
is_range a b c n is =
    let e = length-stepped a c n in
    record { numbers = rw e refl; count = rw e is }
