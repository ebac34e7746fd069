-- Lemmas on keys of one bucket, and on lists of them.
use Rattle.std.proofs.Common.{◌≡◌, ◌≢◌, ℕ, zero, suc, ◌+◌, ◌<◌, ◌≤◌, Bool, true, false, cond, ◌||◌, List, [], ◌∷◌, ◌++◌, length, refl, ap, sym, ◌∙◌, arith, append-nil, length-append}
use Rattle.std.specs.Prelude.{Option, Some, None, is_some, slice_get}
use Rattle.std.specs.List.{AllByRecursion, IsDistinct, flat_map, list_any}
use Rattle.std.specs.Map.{lookup, keys_of}
use Rattle.std.specs.Cmp.{IsEquivalence}
use Rattle.std.proofs.lemmas.List.Concat.{flat_map-append, flat_map-cons}
use Rattle.std.proofs.lemmas.List.Folds.{list_any-append}
use Rattle.std.proofs.lemmas.Map.Keys.{IsDistinct-push}
use Rattle.std.proofs.lemmas.Option.{slice_get_within}
use Rattle.par_index.specs.Entries.{joined, IsApart}
use Rattle.par_index.proofs.Places.{slice_get-left, slice_get-middle}
use Rattle.par_flat.specs.Keys.{insert_key, insert_keys}
use Rattle.par_flat.specs.Blocks.{AreOfBucket, AreKeyBuckets}
use Rattle.par_flat.proofs.Members.{member}

not_so : (b : Bool) → (b ≡ true → b ≡ false) → b ≡ false
not_so true f = f refl
not_so false f = refl

none_from : {A : Type 0} (r : Option A) → is_some r ≡ false → r ≡ None
none_from None e = refl
none_from (Some x) e = cc

all-push : {K : Type 0} (P : K → Type 0) (ks : List K) (k : K) → AllByRecursion P ks → P k → AllByRecursion P (ks ++ k ∷ [])
all-push P [] k h p = (p, tt)
all-push P (x ∷ ks) k h p = (h.0, all-push P ks k h.1 p)

all-insert : {K : Type 0} (P : K → Type 0) (b : Bool) (ks : List K) (k : K) → AllByRecursion P ks → P k → AllByRecursion P (cond b ks (ks ++ k ∷ []))
all-insert P true ks k h p = h
all-insert P false ks k h p = all-push P ks k h p

-- what holds of each key holds of those that are inserted
pub all-insert_keys : {K : Type 0} (P : K → Type 0) (eq : K → K → Bool) (ks xs : List K) → AllByRecursion P ks → AllByRecursion P xs → AllByRecursion P (insert_keys eq ks xs)
all-insert_keys P eq ks [] h g = h
all-insert_keys P eq ks (x ∷ xs) h g = all-insert_keys P eq (insert_key eq ks x) xs (all-insert P (list_any (eq x) ks) ks x h g.0) g.1

distinct-insert : {K : Type 0} (eq : K → K → Bool) (o : IsEquivalence eq) (b : Bool) (ks : List K) (k : K) → list_any (eq k) ks ≡ b → IsDistinct eq ks → IsDistinct eq (cond b ks (ks ++ k ∷ []))
distinct-insert eq o true ks k e d = d
distinct-insert eq o false ks k e d = IsDistinct-push o ks k d e

-- keys that are inserted are distinct
pub distinct-insert_keys : {K : Type 0} (eq : K → K → Bool) (o : IsEquivalence eq) (ks xs : List K) → IsDistinct eq ks → IsDistinct eq (insert_keys eq ks xs)
distinct-insert_keys eq o ks [] d = d
distinct-insert_keys eq o ks (x ∷ xs) d = distinct-insert_keys eq o (insert_key eq ks x) xs (distinct-insert eq o (list_any (eq x) ks) ks x refl d)

of_bucket_at : {K V : Type 0} (bucket : K → ℕ) (i : ℕ) (es : List (K × V)) (j : ℕ) (e : K × V) → AreOfBucket bucket i (keys_of es) → slice_get es j ≡ Some e → bucket e.0 ≡ i
of_bucket_at bucket i [] j e h q = cc
of_bucket_at {K = K} {V = V} bucket i (x ∷ es) zero e h q = let same : x ≡ e = cc in ap (λ (y : K × V). bucket y.0) (sym same) ∙ h.0
of_bucket_at bucket i (x ∷ es) (suc j) e h q = of_bucket_at bucket i es j e h.1 q

module _ {K : Type 0} (eq : K → K → Bool) (bucket : K → ℕ) (alike : (x y : K) → eq x y ≡ true → bucket x ≡ bucket y) where
  other_bucket : (k : K) (i : ℕ) (ks : List K) → AreOfBucket bucket i ks → bucket k ≢ i → list_any (eq k) ks ≡ false
  other_bucket k i [] h n = refl
  other_bucket k i (x ∷ ks) h n = rw (not_so (eq k x) (λ t. absurd (n (alike k x t ∙ h.0)))) (other_bucket k i ks h.1 n)

  in_none : (k : K) (lists : List (List K)) → ((i : ℕ) (ks : List K) → slice_get lists i ≡ Some ks → list_any (eq k) ks ≡ false) → list_any (eq k) (joined lists) ≡ false
  in_none k [] h = refl
  in_none k (ks ∷ lists) h = list_any-append (eq k) ks (joined lists) ∙ rw (h zero ks refl) (in_none k lists (λ i ls q. h (suc i) ls q))

  -- the keys of the next block are in none of those before it
  pub blocks_apart : {V : Type 0} (es others : List (K × V)) (lists taken rest : List (List K)) → keys_of es ≡ joined taken → taken ++ keys_of others ∷ rest ≡ lists → AreKeyBuckets bucket lists → IsApart eq es others
  blocks_apart es others lists taken rest h e are j f q =
      let here : bucket f.0 ≡ length taken = of_bucket_at bucket (length taken) others j f (are (length taken) (keys_of others) (ap (λ ls. slice_get ls (length taken)) (sym e) ∙ slice_get-middle taken (keys_of others) rest)) q in
      let absent : list_any (eq f.0) (joined taken) ≡ false = in_none f.0 taken (λ i ks p.
      let within : i < length taken = slice_get_within taken i ks p in
      other_bucket f.0 i ks (are i ks (ap (λ ls. slice_get ls i) (sym e) ∙ (slice_get-left taken (keys_of others ∷ rest) i within ∙ p))) (λ (s : bucket f.0 ≡ i). absurd (omega arith))) in
      none_from (lookup (eq f.0) es) (member (eq f.0) es ∙ (ap (list_any (eq f.0)) h ∙ absent))

pub distinct-inserted : {K : Type 0} (eq : K → K → Bool) (o : IsEquivalence eq) (xs : List K) → IsDistinct eq (insert_keys eq [] xs)
unfolding IsDistinct
distinct-inserted eq o xs = distinct-insert_keys eq o [] xs tt

-- the next chunk and those before it are no longer than all together
pub chunk_fits : {K X : Type 0} (f : X → List K) (all taken rest : List X) (x : X) → taken ++ x ∷ rest ≡ all → length (flat_map f taken) + length (f x) ≤ length (flat_map f all)
chunk_fits f all taken rest x e =
    let whole : flat_map f all ≡ flat_map f taken ++ (f x ++ flat_map f rest) = ap (flat_map f) (sym e) ∙ (flat_map-append f taken (x ∷ rest) ∙ ap (λ ks. flat_map f taken ++ ks) (flat_map-cons f x rest)) in
    omega (arith, ap length whole, length-append (flat_map f taken) (f x ++ flat_map f rest), length-append (f x) (flat_map f rest))

-- the keys of one more chunk at the end
pub flat_map-push : {K X : Type 0} (f : X → List K) (taken : List X) (x : X) → flat_map f (taken ++ x ∷ []) ≡ flat_map f taken ++ f x
flat_map-push f taken x = flat_map-append f taken (x ∷ []) ∙ ap (λ ks. flat_map f taken ++ ks) (flat_map-cons f x [] ∙ append-nil (f x))
