-- The least and the greatest marked index, and stretches with no mark.
use Rattle.std.proofs.Common.{◌≡◌, ℕ, zero, suc, ◌+◌, ◌≤◌, ◌<◌, ◌⊎◌, inl, inr, Bool, true, false, cond, List, [], ◌∷◌, length, get_or, refl, ap, sym, ◌∙◌, subst, arith, rules}
use Rattle.std.proofs.lemmas.Bool.{cases_lt, false≢true}
use Rattle.par_laws.specs.Marks.{IsMarked, Clear, stop, last, last_after}

pub bool_cases : (b : Bool) → (b ≡ true) ⊎ (b ≡ false)
bool_cases true = inl refl
bool_cases false = inr refl

pub marked_below : (ms : List Bool) (i : ℕ) → IsMarked ms i → i < length ms
marked_below [] i m = absurd (false≢true m)
marked_below (b ∷ ms) zero m = omega arith
marked_below (b ∷ ms) (suc i) m = omega (arith, marked_below ms i m)

pub stop_within : (ms : List Bool) → stop ms ≤ length ms
stop_within [] = omega arith
stop_within (true ∷ ms) = omega arith
stop_within (false ∷ ms) = omega (arith, stop_within ms)

pub stop_least : (ms : List Bool) (i : ℕ) → IsMarked ms i → stop ms ≤ i
stop_least [] i m = absurd (false≢true m)
stop_least (true ∷ ms) i m = omega arith
stop_least (false ∷ ms) zero m = absurd (false≢true m)
stop_least (false ∷ ms) (suc i) m = omega (arith, stop_least ms i m)

pub stop_at : (ms : List Bool) (s : ℕ) → Clear ms 0 s → IsMarked ms s → stop ms ≡ s
stop_at [] s c m = absurd (false≢true m)
stop_at (true ∷ ms) zero c m = refl
stop_at (true ∷ ms) (suc s) c m = absurd (false≢true (sym (c 0 (omega arith) (omega arith))))
stop_at (false ∷ ms) zero c m = absurd (false≢true m)
stop_at (false ∷ ms) (suc s) c m =
    let e = stop_at ms s (λ k a b. c (suc k) (omega arith) (omega arith)) m in omega (arith, e)

pub stop_none : (ms : List Bool) → Clear ms 0 (length ms) → stop ms ≡ length ms
stop_none [] c = refl
stop_none (true ∷ ms) c = absurd (false≢true (sym (c 0 (omega arith) (omega arith))))
stop_none (false ∷ ms) c = let e = stop_none ms (λ k a b. c (suc k) (omega arith) (omega arith)) in omega (arith, e)

pub stop_clear : (ms : List Bool) → Clear ms 0 (stop ms)
stop_clear ms k a b = elim (bool_cases (get_or ms k false)) [ inl m ↦ absurd (omega (arith, stop_least ms k m)) | inr u ↦ u ]

pub stop_marked : (ms : List Bool) → stop ms < length ms → IsMarked ms (stop ms)
stop_marked [] h = absurd (omega arith)
stop_marked (true ∷ ms) h = refl
stop_marked (false ∷ ms) h = let lt : stop ms < length ms = omega arith in let e : stop ms + 1 ≡ suc (stop ms) = omega arith in ap (λ k. get_or (false ∷ ms) k false) e ∙ stop_marked ms lt

pub clear_join : (ms : List Bool) (a b c : ℕ) → Clear ms a b → Clear ms b c → Clear ms a c
clear_join ms a b c p q k h l = elim (cases_lt k b) [ inl lt ↦ p k h lt | inr ge ↦ q k ge l ]

pub clear_one : (ms : List Bool) (k : ℕ) → get_or ms k false ≡ false → Clear ms k (k + 1)
clear_one ms k u j h l = let e : k ≡ j = omega arith in subst (λ i. get_or ms i false ≡ false) e u

last_after_within : (b : Bool) (k n : ℕ) → k ≤ n → last_after b k ≤ n + 1
last_after_within true zero n h = omega arith
last_after_within false zero n h = omega arith
last_after_within b (suc k) n h = omega arith

pub last_within : (ms : List Bool) → last ms ≤ length ms
last_within [] = omega arith
last_within (b ∷ ms) = let h = last_after_within b (last ms) (length ms) (last_within ms) in omega (arith, h)
