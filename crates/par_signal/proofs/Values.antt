-- Values of the flags: facts about numbers and aborts alone.
use Rattle.std.proofs.Common.{◌≡◌, ◌≢◌, ℕ, zero, suc, ◌+◌, ◌<◌, ◌≤◌, ◌==◌, ne_eqb, min, max, inl, inr, ⊎_elim, Bool, true, false, true≢false, List, [], ◌∷◌, length, refl, sym, ap, subst, arith}
use native.Mathlib.Omega.{min_cases, max_cases}
use prog.Atomic.{either}
use Rattle.par_laws.specs.Marks.{IsMarked}
use Rattle.par_signal.specs.declared.abort.Abort.{Abort}
use Rattle.par_signal.specs.declared.abort.Abort.TheVariants.{No, By, Memory}
use Rattle.par_signal.specs.Values.{IsLow, IsHigh, IsAbort, MayFollow, set_by, greater, memory_word, word_of, abort_of}

pub marked_below : (marks : List Bool) (i : ℕ) → IsMarked marks i → i < length marks
marked_below [] i e = absurd (true≢false (sym e))
marked_below (x ∷ xs) zero e = omega arith
marked_below (x ∷ xs) (suc i) e = let h : i < length xs = marked_below xs i e in omega arith

pub low_within : (marks : List Bool) (x : ℕ) → IsLow marks x → x ≤ length marks
low_within marks x is = ⊎_elim (λ (e : x ≡ length marks). omega arith) (λ (m : IsMarked marks x). let b : x < length marks = marked_below marks x m in omega arith) is

pub high_within : (marks : List Bool) (x : ℕ) → IsHigh marks x → x ≤ length marks
high_within marks x is = ⊎_elim (λ (e : x ≡ 0). omega arith) (λ (t : (i : ℕ) × (x ≡ i + 1) × IsMarked marks i). let e : x ≡ t.0 + 1 = t.1 in let b : t.0 < length marks = marked_below marks t.0 t.2 in omega arith) is

pub low_min : (marks : List Bool) (x y : ℕ) → IsLow marks x → IsLow marks y → IsLow marks (min x y)
low_min marks x y hx hy = min_cases x y (IsLow marks (min x y)) (λ _ e. subst (IsLow marks) (sym e) hx) (λ _ e. subst (IsLow marks) (sym e) hy)

pub high_max : (marks : List Bool) (x y : ℕ) → IsHigh marks x → IsHigh marks y → IsHigh marks (max x y)
high_max marks x y hx hy = max_cases x y (IsHigh marks (max x y)) (λ _ e. subst (IsHigh marks) (sym e) hy) (λ _ e. subst (IsHigh marks) (sym e) hx)

pub greater_is : (marks : List Bool) (a b : Abort) → IsAbort marks a → IsAbort marks b → IsAbort marks (greater a b)
greater_is marks No b ha hb = hb
greater_is marks (By i) No ha hb = ha
greater_is marks (By i) (By j) ha hb = max_cases i j (IsMarked marks (max i j)) (λ _ e. subst (IsMarked marks) (sym e) hb) (λ _ e. subst (IsMarked marks) (sym e) ha)
greater_is marks (By i) Memory ha hb = tt
greater_is marks Memory b ha hb = tt

pub set_by_is : (marks : List Bool) (a : Abort) (i : ℕ) → IsAbort marks a → IsMarked marks i → IsAbort marks (set_by a i)
set_by_is marks No i h m = m
set_by_is marks (By j) i h m = h
set_by_is marks Memory i h m = tt

-- an abort may stay
pub follows_same : (a : Abort) → MayFollow a a
follows_same No = tt
follows_same (By i) = inl refl
follows_same Memory = refl

pub follows_after : (a b c : Abort) → MayFollow a b → MayFollow b c → MayFollow a c
follows_after No b c p q = tt
follows_after (By i) b c p q = ⊎_elim (λ (e : b ≡ By i). subst (λ (x : Abort). MayFollow x c) e q) (λ (e : b ≡ Memory). inr (subst (λ (x : Abort). MayFollow x c) e q)) p
follows_after Memory b c p q = subst (λ (x : Abort). MayFollow x c) p q

-- what may follow each of two may follow the greater
pub follows_greater : (a b c : Abort) → MayFollow a c → MayFollow b c → MayFollow (greater a b) c
follows_greater No b c p q = q
follows_greater (By i) No c p q = p
follows_greater (By i) (By j) c p q = max_cases i j (MayFollow (By (max i j)) c) (λ _ e. subst (λ (k : ℕ). MayFollow (By k) c) (sym e) q) (λ _ e. subst (λ (k : ℕ). MayFollow (By k) c) (sym e) p)
follows_greater (By i) Memory c p q = q
follows_greater Memory b c p q = p

pub follows_set_by : (a : Abort) (i : ℕ) → MayFollow a (set_by a i)
follows_set_by No i = tt
follows_set_by (By j) i = inl refl
follows_set_by Memory i = refl

pub follows_memory : (a : Abort) → MayFollow a Memory
follows_memory No = tt
follows_memory (By i) = inr refl
follows_memory Memory = refl

abbrev pub is_memory : Abort → Bool
is_memory No = false
is_memory (By i) = false
is_memory Memory = true

-- `abort` by an index makes Memory of Memory alone
pub set_by_memory : (a : Abort) (i : ℕ) → set_by a i ≡ Memory → a ≡ Memory
set_by_memory No i e = absurd (true≢false (sym (ap is_memory e)))
set_by_memory (By j) i e = e
set_by_memory Memory i e = refl

-- the word of an abort tells which it is
pub read_back : (marks : List Bool) (a : Abort) → IsAbort marks a → length marks < memory_word → abort_of (word_of a) ≡ a
read_back marks No is few = refl
read_back marks (By i) is few = let b : i < length marks = marked_below marks i is in let ne : 1 + i ≢ memory_word = (λ e. omega arith) in let some : 1 + i ≢ 0 = (λ e. omega arith) in rw (ne_eqb (1 + i) 0 some, ne_eqb (1 + i) memory_word ne) (ap By (omega arith))
read_back marks Memory is few = refl

-- what the steps make of the word
pub exchanged_word : (a : Abort) (i : ℕ) → either (word_of a == 0) (1 + i) (word_of a) ≡ word_of (set_by a i)
exchanged_word No i = refl
exchanged_word (By j) i = let some : 1 + j ≢ 0 = (λ e. omega arith) in rw (ne_eqb (1 + j) 0 some) refl
exchanged_word Memory i = refl

pub greatest_word : (marks : List Bool) (a : Abort) → IsAbort marks a → length marks < memory_word → max (word_of a) memory_word ≡ memory_word
greatest_word marks No is few = refl
greatest_word marks (By i) is few = let b : i < length marks = marked_below marks i is in omega arith
greatest_word marks Memory is few = refl
