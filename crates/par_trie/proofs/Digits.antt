-- Lemmas on a branch's table of digits.
use Rattle.std.proofs.Common.{◌≡◌, ℕ, zero, suc, ◌+◌, ◌/◌, ◌%◌, ◌<◌, ◌≤◌, ◌≢◌, false, List, [], ◌∷◌, ◌++◌, length, get_or, set, replicate, refl, ap, sym, ◌∙◌, append_assoc, append-nil, arith, ◌⊎◌, ⊎_elim, inl, inr}
use Rattle.std.specs.Prelude.{◌==◌}
use Rattle.par_index.specs.declared.index.Leaf.{Leaf}
use Rattle.par_index.specs.Places.{places_of}
use Rattle.par_trie.specs.Places.{places_among, taken, IsIndex}
use Rattle.std.proofs.lemmas.Grind.{common_steps}
use Rattle.std.proofs.lemmas.List.{get_or-set_same, get_or-set_other}
use Rattle.std.proofs.lemmas.Bool.{cases_eq}
use Rattle.std.proofs.lemmas.Bool.Decides.{nat_tests}

pub places_among-push : (leaves : List Leaf) (leaf : Leaf) (q : ℕ) → places_among (leaves ++ leaf ∷ []) q ≡ places_among leaves q ++ places_of leaf q
places_among-push [] leaf q = append-nil (places_of leaf q)
places_among-push (l ∷ leaves) leaf q = ap (λ ps. places_of l q ++ ps) (places_among-push leaves leaf q) ∙ sym (append_assoc (places_of l q) (places_among leaves q) (places_of leaf q))

pub taken-le : (ns : List ℕ) → taken ns ≤ length ns
taken-le [] = omega arith
taken-le (n ∷ ns) = grind (arith, taken-le ns)

-- one more digit has a kid
pub taken-set : (ns : List ℕ) (d n : ℕ) → d < length ns → get_or ns d 0 ≡ 0 → 0 < n → taken (set ns d n) ≡ taken ns + 1
taken-set [] d n h z p = absurd (omega arith)
taken-set (m ∷ ns) zero n h z p = grind (arith, nat_tests)
taken-set (m ∷ ns) (suc d) n h z p = grind (arith, nat_tests, taken-set ns d n (omega arith) z p)

pub same_rest : (a q : ℕ) → a % 32 ≡ q % 32 → (a / 32 == q / 32) ≡ (a == q)
same_rest a q h = grind (arith, nat_tests)

pub other_rest : (a q : ℕ) → a % 32 ≢ q % 32 → (a == q) ≡ false
other_rest a q h = grind (arith, nat_tests)

-- an index after one write
pub index_after : (ns : List ℕ) (d n : ℕ) → d < length ns → (e : ℕ) → ((e ≡ d) × (get_or (set ns d n) e 0 ≡ n)) ⊎ ((e ≢ d) × (get_or (set ns d n) e 0 ≡ get_or ns e 0))
index_after ns d n h e = ⊎_elim (λ (same : e ≡ d). inl (same, rw same (get_or-set_same ns d n 0 h))) (λ (ne : e ≢ d). inr (ne, get_or-set_other ns d e n 0 ne)) (cases_eq e d)

-- a digit of its own for one more kid
pub is_index-set : (ns : List ℕ) (d n : ℕ) → IsIndex ns n → d < length ns → get_or ns d 0 ≡ 0 → IsIndex (set ns d (n + 1)) (n + 1)
is_index-set ns d n is h z = record {
  count = grind (arith, taken-set ns d (n + 1) h z (omega arith), is.count);
  within = λ e. ⊎_elim (λ (same : e ≡ d). grind (arith, common_steps, get_or-set_same ns d (n + 1) 0 h)) (λ (ne : e ≡ d → ⊥). rw get_or-set_other (omega (arith, is.within e))) (cases_eq e d);
  apart = λ e f p q. ⊎_elim
      (λ (a : (e ≡ d) × (get_or (set ns d (n + 1)) e 0 ≡ n + 1)). ⊎_elim
      (λ (b : (f ≡ d) × (get_or (set ns d (n + 1)) f 0 ≡ n + 1)). omega arith)
      (λ (b : (f ≢ d) × (get_or (set ns d (n + 1)) f 0 ≡ get_or ns f 0)). absurd (omega (arith, is.within f)))
      (index_after ns d (n + 1) h f))
      (λ (a : (e ≢ d) × (get_or (set ns d (n + 1)) e 0 ≡ get_or ns e 0)). ⊎_elim
      (λ (b : (f ≡ d) × (get_or (set ns d (n + 1)) f 0 ≡ n + 1)). absurd (omega (arith, is.within e)))
      (λ (b : (f ≢ d) × (get_or (set ns d (n + 1)) f 0 ≡ get_or ns f 0)). is.apart e f (omega arith) (omega arith))
      (index_after ns d (n + 1) h f))
      (index_after ns d (n + 1) h e);
}

zeros : (n d : ℕ) → get_or {A = ℕ} (replicate n 0) d 0 ≡ 0
zeros zero d = refl
zeros (suc n) zero = refl
zeros (suc n) (suc d) = zeros n d

pub nothing_at : (d : ℕ) → get_or {A = ℕ} (replicate 32 0) d 0 ≡ 0
nothing_at d = zeros 32 d

pub no_index : IsIndex (replicate 32 0) 0
no_index = record {
  count = refl;
  within = λ d. rw nothing_at (omega arith);
  apart = λ d e p q. absurd (omega (arith, nothing_at d));
}
